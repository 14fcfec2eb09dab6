-- A list ascends if and only if each uid is less than its successor.
use Rattle.std.specs.Prelude.{◌≡◌, ℕ, ◌+◌, ◌-◌, ◌<◌, true, false, List, [], ◌∷◌, length, Some}
use Rattle.std.proofs.Common.{ap, sym, subst, ◌∙◌, arith, get_or, inl, inr}
use Rattle.std.specs.List.Sorted.{IsStrictlySortedBy}
use Rattle.std.specs.Ordering.{is_lt}
use Rattle.std.specs.declared.cmp.Ordering.TheVariants.{Less}
use Rattle.std.proofs.lemmas.Bool.{cases_eq, cases_lt, false≢true}
use Rattle.std.proofs.lemmas.Option.{slice_get-get_or, get_or_from_slice_get}
use Rattle.std.proofs.lemmas.Map.Keys.{Less-from_sorted, sorted_from_all_adjacent}
use Rattle.cedar_ids.specs.UidOf.{uid_order}
use Rattle.cedar_ids.specs.laws.UidOfLaws.{uid_order_total}
use Rattle.cedar_ids.specs.declared.entity.EntityUID.{EntityUID}
use Rattle.cedar_uid_sets.specs.UidSets.{Ascend}
use Rattle.cedar_uid_sets.specs.laws.Fronts.{Abbreviate}
use Rattle.cedar_uid_sets.specs.laws.Places.{RisesIn}
use Rattle.cedar_uid_sets.proofs.Abbreviations.{by_lesser_front}
use Rattle.cedar_uid_sets.proofs.Search.{less}

-- The default of a lookup in a list does not matter within the list.
pub here : (us : List EntityUID) (i : ℕ) (u d : EntityUID) → i < length us → u ≡ get_or us i u → u ≡ get_or us i d
here us i u d within is = sym (get_or_from_slice_get us i u d (slice_get-get_or us i u within ∙ ap Some (sym is)))

none_ascends : Ascend []
unfolding IsStrictlySortedBy
none_ascends = tt

pub all_rise : (us : List EntityUID) → RisesIn us 0 (length us) → Ascend us
all_rise [] rises = none_ascends
all_rise (u ∷ us) rises =
    sorted_from_all_adjacent uid_order_total (u ∷ us) u (λ k lt. rises k u (omega arith) lt)

-- If one uid is not less than its successor, the list does not ascend.
pub not_there : (us : List EntityUID) (u v : EntityUID) (at : ℕ) → 0 < at → at < length us → u ≡ get_or us (at - 1) u
    → v ≡ get_or us at v → is_lt (uid_order u v) ≡ false → Ascend us → ⊥
not_there us u v at some within one next told s =
    let lt : at - 1 < at = omega (arith, some) in
    let less_there : uid_order (get_or us (at - 1) u) (get_or us at u) ≡ Less =
    Less-from_sorted uid_order us (at - 1) at u s lt within in
    let less_here : uid_order u v ≡ Less = ap (λ w. uid_order w v) one
    ∙ ap (uid_order (get_or us (at - 1) u)) (here us at v u within next) ∙ less_there in
    false≢true (sym told ∙ ap is_lt less_here)

-- A run can be extended by a uid of the same kind with a greater front.
pub rises_on : (us : List EntityUID) (start at k f g : ℕ) → (k ≡ 0 → ⊥) → f < g
    → ((j : ℕ) (d : EntityUID) → j + 1 ≡ at → Abbreviate k f (get_or us j d))
    → ((d : EntityUID) → Abbreviate k g (get_or us at d)) → RisesIn us start at → RisesIn us start (at + 1)
rises_on us start at k f g some lt last next rises j d ge within = elim (cases_eq (j + 1) at) [
  | inl same ↦ ap (λ n. uid_order (get_or us j d) (get_or us n d)) same
      ∙ less _ (sym (by_lesser_front _ _ _ _ _ _ (last j d same) (next d) some some (λ i. k) lt))
  | inr differ ↦ rises j d ge (omega (arith, differ, within))
]

-- Two runs form one run if the first uid of the second is greater than the last uid of the first.
pub rises_both : (us : List EntityUID) (u v : EntityUID) (at end : ℕ) → 0 < at → at < length us
    → u ≡ get_or us (at - 1) u → v ≡ get_or us at v → is_lt (uid_order u v) ≡ true
    → RisesIn us 0 at → RisesIn us at end → RisesIn us 0 end
rises_both us u v at end some within one next told before behind j d ge le = elim (cases_lt j at) [
  | inl below ↦ elim (cases_eq (j + 1) at) [
    | inl same ↦
        let last : at - 1 ≡ j = omega (arith, same) in
        subst (λ n. uid_order (get_or us j d) (get_or us n d) ≡ Less) (sym same)
        (subst (λ n. uid_order (get_or us n d) (get_or us at d) ≡ Less) last
        (ap (λ w. uid_order w (get_or us at d)) (sym (here us (at - 1) u d (omega (arith, within)) one))
        ∙ ap (uid_order u) (sym (here us at v d within next)) ∙ less _ told))
    | inr differ ↦ before j d ge (omega (arith, below, differ))
  ]
  | inr above ↦ behind j d (omega (arith, above)) le
]
