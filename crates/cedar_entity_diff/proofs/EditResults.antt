-- The results of edits of a copy of a store.
use Rattle.std.specs.Prelude.{◌≡◌, List, map, Result, Ok, Err, IfOk}
use Rattle.std.proofs.Common.{subst, sym}
use Rattle.std.specs.Result.{IsErrAnd}
use Rattle.cedar_ids.specs.declared.entity.EntityUID.{EntityUID}
use Rattle.cedar_entity.specs.View.{EntityView}
use Rattle.cedar_entity.specs.declared.err.EntitiesError.{EntitiesError}
use Rattle.cedar_entity_maps.specs.Edits.{uids_of}
use Rattle.cedar_entity_maps.specs.InputStore.{InputStore}
use Rattle.cedar_entity_maps.specs.Plain.{StoreView, IsPlainStore, HaveNoIndirect, input_of}
use Rattle.cedar_entity_maps.specs.declared.modes.TCComputation.{TCComputation}
use Rattle.cedar_entities.specs.Changes.{AddsEntities, AddsPlain, RemovesEntities, RemovesPlain}
use Rattle.cedar_entities.specs.Changes.{StripsPlain, UpsertsEntities, UpsertsPlain}
use Rattle.cedar_entity_diff.specs.Diffs.{DiffView}
use Rattle.cedar_entity_diff.specs.WouldChange.{IsAddResult, IsRemoveResult, IsUpsertResult, WouldChange}

-- An error of the edit is the result.
pub error_of : (S : StoreView) (P : Result StoreView EntitiesError → Type 0) (r : Result DiffView EntitiesError)
    (e : EntitiesError) → IsErrAnd r (λ x. x ≡ e) → P (Err e) → WouldChange S P r
error_of S P (Ok d) e h p = absurd h
error_of S P (Err x) e h p = subst (λ y. P (Err y)) (sym h) p

module _ (mode : TCComputation) (S : StoreView) (L : List EntityView) where
  -- The result of an addition to a copy is a possible result of an addition to the store.
  pub add_result : (copy : StoreView) → copy ≡ S → (r : Result StoreView EntitiesError)
      → IfOk r (λ s. s.partial ≡ copy.partial) → AddsEntities mode copy.entities L r (λ s. s.entities)
      → ((W : InputStore) → IsPlainStore W copy → HaveNoIndirect L → AddsPlain mode W (map input_of L) r)
      → IsAddResult mode S L r
  add_result copy is r p a w = subst (λ C. IsAddResult mode C L r) is (record { partial = p; adds = a; plain = w })

  -- The result of overwriting a copy is a possible result of overwriting the store.
  pub upsert_result : (copy : StoreView) → copy ≡ S → (r : Result StoreView EntitiesError)
      → IfOk r (λ s. s.partial ≡ copy.partial) → UpsertsEntities mode copy.entities L r
      → ((W : InputStore) → IsPlainStore W copy → StripsPlain mode W copy.entities (uids_of L) r)
      → ((W : InputStore) → IsPlainStore W copy → HaveNoIndirect L → UpsertsPlain mode W (map input_of L) r)
      → IsUpsertResult mode S L r
  upsert_result copy is r p a s w =
      subst (λ C. IsUpsertResult mode C L r) is (record { partial = p; upserts = a; strips = s; plain = w })

module _ (mode : TCComputation) (S : StoreView) (U : List EntityUID) where
  -- The result of removing uids from a copy is a possible result of removing them from the store.
  pub remove_result : (copy : StoreView) → copy ≡ S → (r : Result StoreView EntitiesError)
      → IfOk r (λ s. s.partial ≡ copy.partial) → RemovesEntities mode copy.entities U r
      → ((W : InputStore) → IsPlainStore W copy → RemovesPlain W U r) → IsRemoveResult mode S U r
  remove_result copy is r p a w =
      subst (λ C. IsRemoveResult mode C U r) is (record { partial = p; removes = a; plain = w })
