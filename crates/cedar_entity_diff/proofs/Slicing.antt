-- A slice of a store at uids that include all uids that an edit affects.
use Rattle.std.specs.Prelude.{◌≡◌, ◌↔◌, Bool, true, false, ◌&&◌, ◌||◌, List, [], ◌∷◌, Option, Some, None, map, option_map}
use Rattle.std.proofs.Common.{ap, sym, refl, subst, ◌∙◌}
use Rattle.std.proofs.lemmas.Bool.{and_parts, both_ways, false_from_ne_true, or_left, or_parts, or_right}
use Rattle.std.proofs.lemmas.Map.Made.{is_member-filter}
use Rattle.std.specs.List.{AllByRecursion, filter, list_any}
use Rattle.std.specs.Set.{is_member}
use Rattle.std.specs.FinMap as finmap
use Rattle.cedar_ids.specs.UidOf.{same_uid, uid_order}
use Rattle.cedar_ids.specs.laws.UidOfLaws.{same_uid_decides, same_uid_equiv}
use Rattle.cedar_ids.specs.declared.entity.EntityUID.{EntityUID}
use Rattle.cedar_entity.specs.View.{EntityView, has_ancestor}
use Rattle.cedar_entity_maps.specs.Affected.{is_affected}
use Rattle.cedar_entity_maps.specs.Edits.{is_stale, without_stale}
use Rattle.cedar_entity_maps.specs.Modes.{ancestry, is_ancestor_in}
use Rattle.cedar_entity_maps.specs.Plain.{EntityMap, StoreView, IsPlainStore}
use Rattle.cedar_entity_maps.specs.InputStore.{InputStore}
use Rattle.cedar_entity_maps.specs.laws.AnyOf.{any_less, none_retained, same_bool}
use Rattle.cedar_entity_maps.specs.laws.Indexes.{IsPlainHeld}
use Rattle.cedar_entity_maps.specs.laws.PlainAncestors.{ancestry_plain}
use Rattle.cedar_slice.specs.Slices.{is_wanted, part_of, sliced, IsSliceOf}
use Rattle.cedar_slice.specs.laws.OneSlice.{asked_is_wanted, wanted_by}
use Rattle.cedar_dry_run.specs.laws.HeldTrials.{get_same}

-- The input store of a plain store.
pub plain_of_held : (S : StoreView) → IsPlainHeld S.entities → (W : InputStore) × IsPlainStore W S
plain_of_held S h = (
  record h.0 { partial = S.partial },
  record {
    partial = refl;
    holds = h.1.holds;
    keyed = h.1.keyed;
    reached = h.1.reached;
    apart = h.1.apart;
    acyclic = h.1.acyclic;
  },
)

-- A slice whose test is `is_wanted`.
abbrev pub by_wanted : (W : InputStore) (S : StoreView) (plain : IsPlainStore W S) (U : List EntityUID) (V : InputStore)
    → IsSliceOf W U V → IsSliceOf W U V
by_wanted W S plain U V slice = record {
  test = is_wanted S.entities U;
  passes = wanted_by W (ancestry S.entities) (ancestry_plain W S plain) U;
  entries = slice.entries ∙ ap (part_of W) (λ i q.
      same_bool (slice.test q) (is_wanted S.entities U q)
      (λ h. (wanted_by W (ancestry S.entities) (ancestry_plain W S plain) U q).1 ((slice.passes q).0 h))
      (λ h. (slice.passes q).1 ((wanted_by W (ancestry S.entities) (ancestry_plain W S plain) U q).0 h)) i);
}

-- A uid that is not selected is not affected.
pub unaffected : (D : EntityMap) (U A : List EntityUID)
    → ((q : EntityUID) → is_affected D A q ≡ true → is_member same_uid U q ≡ true) → (q : EntityUID)
    → is_wanted D U q ≡ false → is_affected D A q ≡ false
unaffected D U A all q f = false_from_ne_true (is_affected D A q)
    (λ t. both_ways (is_wanted D U q) f (asked_is_wanted D U q (all q t)))

-- An edit affects a selected uid in the part if and only if it affects it in the whole.
pub affected_alike : (D : EntityMap) (U A : List EntityUID) (q : EntityUID) → is_wanted D U q ≡ true
    → is_affected (sliced D U) A q ≡ is_affected D A q
affected_alike D U A q t =
    ap (λ (o : Option EntityView). is_member same_uid A q || list_any (λ u. is_ancestor_in o u) A) (get_same D U q t)

-- A property of all members of a list.
pub all_members : (P : EntityUID → Type 0) (us : List EntityUID)
    → ((q : EntityUID) → is_member same_uid us q ≡ true → P q) → AllByRecursion P us
all_members P [] h = tt
all_members P (u ∷ us) h = (
  h u (or_left (same_uid u u) (is_member same_uid us u) (same_uid_equiv.refl u)),
  all_members P us (λ q m. h q (or_right (same_uid q u) (is_member same_uid us q) m)),
)

-- The members of a filtered list.
pub member_filter : (f : EntityUID → Bool) (us : List EntityUID) (q : EntityUID)
    → is_member same_uid (filter f us) q ≡ (is_member same_uid us q && f q)
member_filter f us q =
    is_member-filter same_uid_equiv f q (λ x e. ap f ((same_uid_decides q x).0 e)) us

-- An entity without an edited ancestor has no stale ancestor.
pub not_stale : (D : EntityMap) (A : List EntityUID) (e : EntityView)
    → list_any (λ u. finmap.contains_key D u && has_ancestor e u) A ≡ false → without_stale D A e ≡ e
not_stale D A e h = λ i. record e {
  indirect = none_retained e.indirect (λ w. list_any (is_stale D e w) A)
      (λ w _. any_less (is_stale D e w) (λ u. finmap.contains_key D u && has_ancestor e u)
      (λ u t. (and_parts (finmap.contains_key D u && has_ancestor e u) (same_uid u w || ancestry D u w) t).0) A h) i;
}
