-- The merge of two ascending lists of uids.
use Rattle.std.specs.Prelude.{List, [], ◌∷◌, ◌++◌}
use Rattle.std.specs.declared.cmp.Ordering.{Ordering}
use Rattle.std.specs.declared.cmp.Ordering.TheVariants.{Less, Equal, Greater}
use Rattle.cedar_ids.specs.UidOf.{uid_order}
use Rattle.cedar_ids.specs.declared.entity.EntityUID.{EntityUID}

-- The first value for `Less`, the second for `Equal`, and the third for `Greater`.
abbrev pub by_order : {X : Type 0} → Ordering → X → X → X → X
by_order Less a b c = a
by_order Equal a b c = b
by_order Greater a b c = c

-- The uids from the front of the list that are less than u.
abbrev pub below : EntityUID → List EntityUID → List EntityUID
below u [] = []
below u (x ∷ xs) = by_order (uid_order x u) (x ∷ below u xs) [] []

-- The rest of the list after the uids that are less than u, and after u itself.
abbrev pub above : EntityUID → List EntityUID → List EntityUID
above u [] = []
above u (x ∷ xs) = by_order (uid_order x u) (above u xs) xs (x ∷ xs)

-- The merge of two ascending lists. Each uid of the second list follows the smaller uids of the first. The rest of the
-- first list comes at the end.
abbrev pub merged : List EntityUID → List EntityUID → List EntityUID
merged ls [] = ls
merged ls (u ∷ us) = below u ls ++ u ∷ merged (above u ls) us
