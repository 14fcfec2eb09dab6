use Rattle.std.proofs.Common.{◌≡◌, ℕ, List}
use Rattle.std.specs.Option.{option_or}
use Rattle.std.specs.BTreeMap.{get, IsOrdered}
use Rattle.std.specs.Vec.Iter.{into_iter_items}
use Rattle.cedar_ids.specs.Texts.{text_order}
use Rattle.cedar_annotation.specs.Annotations.{last_value_at}
use Rattle.cedar_annotation.proofs.annotation.collected.Given as goal

abbrev pub invariant-loop-key : goal.invariant-loop-key
invariant-loop-key l =
    IsOrdered text_order l.all ×
    ((key : List ℕ) → option_or (last_value_at key (into_iter_items l.key-iterator)) (get text_order l.all key)
    ≡ last_value_at key l.fn.pairs.items)
