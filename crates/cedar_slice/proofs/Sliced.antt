-- The entity map and the errors of a store that is created from copies of the selected entities.
use Rattle.std.specs.Prelude.{◌≡◌, true, false, cond, List, None, filter_map, Result, Ok, Err, IfOk, IfErr}
use Rattle.std.proofs.Common.{ap, refl, subst, ◌∙◌}
use Rattle.std.specs.Set.{is_member}
use Rattle.std.specs.FinMap as finmap
use Rattle.cedar_ids.specs.UidOf.{same_uid}
use Rattle.cedar_ids.specs.declared.entity.EntityUID.{EntityUID}
use Rattle.cedar_entity.specs.View.{EntityView}
use Rattle.cedar_entity.specs.declared.err.EntitiesError.{EntitiesError}
use Rattle.cedar_entity.specs.declared.err.EntitiesError.TheVariants.{Memory}
use Rattle.cedar_entity_maps.specs.Plain.{StoreView, EntityMap, no_entities}
use Rattle.cedar_entities.specs.Present.{with_first, AllMatch, FirstMismatch}
use Rattle.cedar_entity_maps.specs.EditErrors.{MatchError}
use Rattle.cedar_entity_maps.specs.laws.EditErrors.{refusal_cases}
use Rattle.cedar_slice.specs.Slices.{is_wanted, sliced}
use Rattle.cedar_slice.specs.laws.OneSlice.{asked_is_wanted}
use Rattle.cedar_slice.proofs.Copies.{AreKeyed, none_differs, store_of}
use Rattle.cedar_slice.proofs.PlainSlices.{get_kept}

-- The requested entities are unchanged.
pub asked_stays : (D : EntityMap) (U : List EntityUID) (q : EntityUID) → is_member same_uid U q ≡ true
    → finmap.get (sliced D U) q ≡ finmap.get D q
asked_stays D U q m = get_kept D (is_wanted D U) q ∙ ap (λ t. cond t (finmap.get D q) None) (asked_is_wanted D U q m)

module _ (D : EntityMap) (ks : List EntityUID) (keyed : AreKeyed D ks) (L : List EntityView)
    (copies : L ≡ filter_map (finmap.get D) ks) where
  -- The store of the copies contains the slice.
  pub holds_slice : (U : List EntityUID) → ((q : EntityUID) → is_member same_uid ks q ≡ is_wanted D U q)
      → (r : Result StoreView EntitiesError)
      → IfOk r (λ s. s.partial ≡ false) → IfOk r (λ s. s.entities ≡ with_first no_entities L)
      → IfOk r (λ s. (s.entities ≡ sliced D U) × (s.partial ≡ false))
  holds_slice U same (Ok s) flag is =
      (is ∙ ap (with_first no_entities) copies ∙ store_of D ks keyed (is_wanted D U) same, flag)
  holds_slice U same (Err e) flag is = tt

  -- It fails only if an allocation fails, because its mode makes no check of the closure.
  pub only_memory : (r : Result StoreView EntitiesError)
      → IfErr r
      (λ e. MatchError e (FirstMismatch (finmap.get no_entities) L) (λ t. AllMatch (finmap.get no_entities) L × ⊥))
      → IfErr r (λ e. e ≡ Memory)
  only_memory (Ok s) h = tt
  only_memory (Err e) h =
      refusal_cases (FirstMismatch (finmap.get no_entities) L) (λ t. AllMatch (finmap.get no_entities) L × ⊥)
      (λ x. x ≡ Memory)
      (λ u m. absurd (none_differs D ks keyed u (subst (λ l. FirstMismatch (finmap.get no_entities) l u) copies m)))
      (λ t k. absurd k.1) refl e h
