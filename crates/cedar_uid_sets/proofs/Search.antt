-- The result of a binary search among ascending uids.
use Rattle.std.specs.Prelude.{◌≡◌, ◌⊎◌, ℕ, ◌<◌, ◌≤◌, List, length, Result, Ok, Err, MatchResult, Some, ◌-◌, IsTrue}
use Rattle.std.proofs.Common.{ap, sym, refl, ◌∙◌, arith, get_or, inl, inr}
use Rattle.std.specs.List.{slice_get}
use Rattle.std.specs.List.Sorted.{IsSearchInRange, IsBinarySearchResult, IsNonDecreasingBy}
use Rattle.std.specs.Ordering.{ordering_index, is_lt}
use Rattle.std.specs.declared.cmp.Ordering.{Ordering}
use Rattle.std.specs.declared.cmp.Ordering.TheVariants.{Less, Equal, Greater}
use Rattle.std.proofs.lemmas.Bool.{cases_eq}
use Rattle.std.proofs.lemmas.Option.{get_or_from_slice_get}
use Rattle.std.proofs.lemmas.Map.Keys.{Less-from_sorted}
use Rattle.cedar_ids.specs.UidOf.{uid_order}
use Rattle.cedar_ids.specs.laws.UidOfLaws.{uid_order_total}
use Rattle.cedar_ids.specs.declared.entity.EntityUID.{EntityUID}
use Rattle.cedar_uid_sets.specs.UidSets.{Ascend}
use Rattle.cedar_uid_sets.specs.laws.Places.{IsPlaceOf, IsGapFor}
use Rattle.cedar_uid_sets.proofs.Orders.{rises, turned, equal_is}

module _ (us : List EntityUID) (u : EntityUID) where
  comparisons_rise : Ascend us → IsNonDecreasingBy (λ y. ordering_index (uid_order y u)) us
  comparisons_rise s i j d le lt = at (cases_eq i j)
    where
      at : (i ≡ j) ⊎ (i ≡ j → ⊥) → ordering_index (uid_order (get_or us i d) u)
          ≤ ordering_index (uid_order (get_or us j d) u)
      at (inl same) = omega (arith, ap (λ k. ordering_index (uid_order (get_or us k d) u)) same)
      at (inr differ) =
          rises (get_or us i d) (get_or us j d) u (uid_order (get_or us j d) u) refl
          (Less-from_sorted uid_order us i j d s (omega (arith, differ)) lt)

  pub searched : Ascend us → (r : Result ℕ ℕ) → IsSearchInRange r (length us)
      → IsBinarySearchResult (λ y. uid_order y u) us r → MatchResult r (IsPlaceOf us u) (IsGapFor us u)
  searched s (Ok at) in_range equal = record { in_range = in_range; here = λ d. equal_is (get_or us at d) u (equal d) }
  searched s (Err at) in_range parted = record {
    in_range = in_range;
    below = λ j d lt. (parted (comparisons_rise s)).0 j d (omega arith) lt;
    above = λ j d le lt. turned (get_or us j d) u ((parted (comparisons_rise s)).1 j d le lt);
  }

  -- A uid that is greater than the last is greater than all.
  pub past_all : Ascend us → (x : EntityUID) → slice_get us (length us - 1) ≡ Some x → uid_order x u ≡ Less
      → IsGapFor us u (length us)
  past_all s x at less = record {
    in_range = omega arith;
    below = λ j d lt. by_place j d lt (cases_eq j (length us - 1));
    above = λ j d le lt. absurd (omega arith);
  }
    where
      last : (d : EntityUID) → get_or us (length us - 1) d ≡ x
      last d = get_or_from_slice_get us (length us - 1) x d at

      by_place : (j : ℕ) (d : EntityUID) → j < length us → (j ≡ length us - 1) ⊎ (j ≡ length us - 1 → ⊥)
          → uid_order (get_or us j d) u ≡ Less
      by_place j d lt (inl same) = ap (λ k. uid_order (get_or us k d) u) same ∙ ap (λ y. uid_order y u) (last d) ∙ less
      by_place j d lt (inr differ) =
          let far : uid_order (get_or us j d) (get_or us (length us - 1) d) ≡ Less =
          Less-from_sorted uid_order us j (length us - 1) d s (omega (arith, differ)) (omega arith) in
          uid_order_total.trans (get_or us j d) x u (ap (uid_order (get_or us j d)) (sym (last d)) ∙ far) less

pub less : (o : Ordering) → IsTrue (is_lt o) → o ≡ Less
less Less h = refl
less Equal h = cc
less Greater h = cc
