-- Distinct uids ascend after they are sorted.
use Rattle.std.specs.Prelude.{◌≡◌, ◌+◌, false, List, [], ◌∷◌}
use Rattle.std.proofs.Common.{sym, refl, ◌∙◌, arith, get_or}
use Rattle.std.specs.List.{IsDistinct}
use Rattle.std.specs.List.Sorted.{IsSorted, IsPermutation, IsStrictlySortedBy}
use Rattle.std.specs.Ordering.{is_lt, is_eq, ordering_reverse}
use Rattle.std.specs.declared.cmp.Ordering.{Ordering}
use Rattle.std.specs.declared.cmp.Ordering.TheVariants.{Less, Equal, Greater}
use Rattle.std.specs.FinSet as set
use Rattle.std.proofs.lemmas.List.Sorted.{list_any-IsPermutation}
use Rattle.std.proofs.lemmas.Map.Keys.{IsDistinct-IsPermutation, apart_from_distinct, sorted_from_all_adjacent}
use Rattle.cedar_ids.specs.UidOf.{uid_order, same_uid}
use Rattle.cedar_ids.specs.laws.UidOfLaws.{uid_order_total, uid_order_ties, same_uid_equiv}
use Rattle.cedar_ids.specs.declared.entity.EntityUID.{EntityUID}
use Rattle.cedar_uid_sets.specs.UidSets.{Ascend}
use Rattle.cedar_uid_sets.specs.laws.Sets.{same_listed}

-- If x and y are not equal and y is not less than x, then x is less than y.
rising : (o p : Ordering) → o ≡ ordering_reverse p → is_eq o ≡ false → is_lt p ≡ false → o ≡ Less
rising Less p e a b = refl
rising Equal p e a b = cc
rising Greater Less e a b = cc
rising Greater Equal e a b = cc
rising Greater Greater e a b = cc

none_ascends : Ascend []
unfolding IsStrictlySortedBy
none_ascends = tt

pub ascend_sorted : (us vs : List EntityUID) → IsDistinct same_uid us → IsPermutation us vs → IsSorted uid_order vs
    → Ascend vs
ascend_sorted us [] once moved up = none_ascends
ascend_sorted us (v ∷ vs) once moved up =
    sorted_from_all_adjacent uid_order_total (v ∷ vs) v (λ k lt.
    let a : EntityUID = get_or (v ∷ vs) k v in
    let b : EntityUID = get_or (v ∷ vs) (k + 1) v in
    let two : same_uid a b ≡ false = apart_from_distinct same_uid (v ∷ vs) k (k + 1) v
    (IsDistinct-IsPermutation same_uid same_uid_equiv.symm us (v ∷ vs) moved once) (omega arith) lt in
    rising (uid_order a b) (uid_order b a) (uid_order_total.antisymm a b) (sym (uid_order_ties a b) ∙ two)
    (up k v (omega arith) lt))

-- Sorting does not change the set.
pub set_sorted : (us vs : List EntityUID) → IsPermutation us vs → set.from_list {R = uid_order} vs ≡ set.from_list us
set_sorted us vs moved = same_listed vs us (λ q. sym (list_any-IsPermutation (same_uid q) us vs moved))
