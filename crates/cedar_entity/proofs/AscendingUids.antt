-- Ascending lists of uids, by pairs and as `Ascend`.
use Rattle.std.specs.List.{AllByRecursion}
use Rattle.std.specs.List.Sorted.{IsStrictlySortedBy}
use Rattle.std.specs.Ordering.{is_ge, is_lt}
use Rattle.std.proofs.Common.{◌≡◌, Bool, true, false, ℕ, ◌<◌, List, [], ◌∷◌, Some, suc, zero, refl, arith, slice_get, Ordering, Less, Equal, Greater}
use Rattle.cedar_graph.specs.Ascending.{IsAscending}
use Rattle.cedar_ids.specs.UidOf.{uid_order}
use Rattle.cedar_ids.specs.declared.entity.EntityUID.{EntityUID}
use Rattle.cedar_uid_sets.specs.UidSets.{Ascend}
use Rattle.cedar_entity.specs.laws.Views.{uid_precedes}

pub less_if_lt : (o : Ordering) → is_lt o ≡ true → o ≡ Less
less_if_lt Less h = refl
less_if_lt Equal h = cc
less_if_lt Greater h = cc

pub less_unless_ge : (o : Ordering) → is_ge o ≡ false → o ≡ Less
less_unless_ge Less h = refl
less_unless_ge Equal h = cc
less_unless_ge Greater h = cc

all_after : (x : EntityUID) (us : List EntityUID)
    → ((j : ℕ) (y : EntityUID) → slice_get us j ≡ Some y → uid_precedes x y ≡ true)
    → AllByRecursion (λ y. uid_order x y ≡ Less) us
all_after x [] h = tt
all_after x (u ∷ us) h = (less_if_lt (uid_order x u) (h 0 u refl), all_after x us (λ j y g. h (suc j) y g))

-- A list in which each uid precedes every later one ascends.
pub ascends_by_pairs : (us : List EntityUID) → IsAscending uid_precedes us → Ascend us
unfolding IsStrictlySortedBy
ascends_by_pairs [] h = tt
ascends_by_pairs (u ∷ us) h = (
  all_after u us (λ j y g. h 0 (suc j) u y (omega arith) refl g),
  ascends_by_pairs us (λ i j x y lt g k. h (suc i) (suc j) x y (omega (arith, lt)) g k),
)
