-- Lists with at least one element.
use Rattle.std.specs.Prelude.{List, ◌∷◌}
use Rattle.cedar_ids.specs.declared.non_empty.NonEmpty.{NonEmpty}

-- All elements of a non-empty list, in order.
abbrev pub all_of : {T : Type 0} → NonEmpty T → List T
all_of n = n.head ∷ n.tail.items
