-- The result of an edit of the part, as a result for the store.
use Rattle.std.specs.Prelude.{◌≡◌, true, List, map, Result, Ok, Err}
use Rattle.std.proofs.Common.{refl, subst, sym, inl}
use Rattle.std.specs.Set.{is_member}
use Rattle.cedar_ids.specs.UidOf.{same_uid}
use Rattle.cedar_ids.specs.declared.entity.EntityUID.{EntityUID}
use Rattle.cedar_entity.specs.View.{EntityView}
use Rattle.cedar_entity.specs.declared.err.EntitiesError.{EntitiesError}
use Rattle.cedar_entities.specs.Calls.{Add, Upsert}
use Rattle.cedar_entities.specs.Changes.{AddsPlain, UpsertsPlain}
use Rattle.cedar_entity_maps.specs.Plain.{StoreView, IsPlainStore, HaveNoIndirect, input_of, parts_of}
use Rattle.cedar_entity_maps.specs.InputStore.{InputStore, InputEntity}
use Rattle.cedar_entity_maps.specs.declared.modes.TCComputation.TheVariants.{ComputeNow}
use Rattle.cedar_slice.specs.Slices.{IsSliceOf}
use Rattle.cedar_dry_run.specs.Trials.{IsDryAddError, IsDryUpsertError, Tries}
use Rattle.cedar_dry_run.specs.laws.Requested.{AreAsked, IsAsked, IsPartFor}
use Rattle.cedar_dry_run.specs.laws.Found.{all_along, all_mapped}
use Rattle.cedar_dry_run.specs.laws.HeldTrials.{add_refusal, upsert_refusal}
use Rattle.cedar_dry_run.specs.laws.PlainTrials.{AreCovered, PassesWith, adding_alike, overwriting_alike}

wanted : (W V : InputStore) (U : List EntityUID) (slice : IsSliceOf W U V) (q : EntityUID) → is_member same_uid U q ≡ true
    → slice.test q ≡ true
wanted W V U slice q m = (slice.passes q).1 (record { from = q; asked = m; leads = inl refl })

-- The requested uids are in the slice.
pub covered : (W V : InputStore) (U : List EntityUID) (slice : IsSliceOf W U V) (L : List EntityView) → AreAsked U L
    → AreCovered slice.test (map input_of L)
covered W V U slice L asked = all_mapped input_of (λ g. PassesWith slice.test g.uid g.parts) L
    (all_along (IsAsked U) (λ e. PassesWith slice.test e.uid (parts_of e))
    (λ e a. (wanted W V U slice e.uid a.0, λ b h. wanted W V U slice b (a.1 b h))) L asked)

-- The result of an edit of a plain store is a result of its dry run.
added_so : (V : InputStore) (L : List InputEntity) (r : Result StoreView EntitiesError) → AddsPlain ComputeNow V L r
    → Tries V (Add L) r
added_so V L (Ok s) a = (a.agree, λ c. a.ok.acyclic c.0 c.1)
added_so V L (Err e) a = a.err

put_so : (V : InputStore) (L : List InputEntity) (r : Result StoreView EntitiesError) → UpsertsPlain ComputeNow V L r
    → Tries V (Upsert L) r
put_so V L (Ok s) a = λ c. a.ok.acyclic c.0 c.1
put_so V L (Err e) a = a.err

module _ (S : StoreView) (L : List EntityView) (N : StoreView) (part : IsPartFor S L N) (M : List EntityView)
    (same : M ≡ L) where
  -- Adding to the part is a dry run of the addition.
  pub adding_tried : (r : Result StoreView EntitiesError)
      → ((V : InputStore) → IsPlainStore V N → HaveNoIndirect M → AddsPlain ComputeNow V (map input_of M) r)
      → (W : InputStore) → IsPlainStore W S → HaveNoIndirect L → Tries W (Add (map input_of L)) r
  adding_tried r adds W p bare =
      let s = part.plain W p in
      adding_alike W s.input_store part.uids s.is_slice (map input_of L) (covered W s.input_store part.uids s.is_slice L part.asked)
      p.acyclic r
      (added_so s.input_store (map input_of L) r
      (subst (λ (K : List EntityView). AddsPlain ComputeNow s.input_store (map input_of K) r) same
      (adds s.input_store s.is_plain (subst HaveNoIndirect (sym same) bare))))

  -- An error of the part is an error of the addition.
  pub adding_refused : (e : EntitiesError) → IsDryAddError N.entities M e → IsDryAddError S.entities L e
  adding_refused e h = add_refusal S.entities part.uids L part.asked e
      (subst (λ D. IsDryAddError D L e) part.entities (subst (λ K. IsDryAddError N.entities K e) same h))

  pub putting_tried : (r : Result StoreView EntitiesError)
      → ((V : InputStore) → IsPlainStore V N → HaveNoIndirect M → UpsertsPlain ComputeNow V (map input_of M) r)
      → (W : InputStore) → IsPlainStore W S → HaveNoIndirect L → Tries W (Upsert (map input_of L)) r
  putting_tried r puts W p bare =
      let s = part.plain W p in
      overwriting_alike W s.input_store part.uids s.is_slice (map input_of L)
      (covered W s.input_store part.uids s.is_slice L part.asked) p.acyclic r
      (put_so s.input_store (map input_of L) r
      (subst (λ (K : List EntityView). UpsertsPlain ComputeNow s.input_store (map input_of K) r) same
      (puts s.input_store s.is_plain (subst HaveNoIndirect (sym same) bare))))

  pub putting_refused : (e : EntitiesError) → IsDryUpsertError N.entities M e → IsDryUpsertError S.entities L e
  putting_refused e h = upsert_refusal S.entities part.uids L part.asked e
      (subst (λ D. IsDryUpsertError D L e) part.entities (subst (λ K. IsDryUpsertError N.entities K e) same h))
