-- What an edit of a store would change: the results of the edits, and the difference that a result makes.
use Rattle.std.specs.Prelude.{◌≡◌, List, map, Result, Ok, Err, IfOk}
use Rattle.cedar_ids.specs.declared.entity.EntityUID.{EntityUID}
use Rattle.cedar_entity.specs.View.{EntityView}
use Rattle.cedar_entity.specs.declared.err.EntitiesError.{EntitiesError}
use Rattle.cedar_entity_maps.specs.Edits.{uids_of}
use Rattle.cedar_entity_maps.specs.InputStore.{InputStore}
use Rattle.cedar_entity_maps.specs.Plain.{StoreView, IsPlainStore, HaveNoIndirect, input_of}
use Rattle.cedar_entity_maps.specs.declared.modes.TCComputation.{TCComputation}
use Rattle.cedar_entities.specs.Changes.{AddsEntities, AddsPlain, RemovesEntities, RemovesPlain}
use Rattle.cedar_entities.specs.Changes.{StripsPlain, UpsertsEntities, UpsertsPlain}
use Rattle.cedar_entity_diff.specs.Diffs.{DiffView, IsDiff}

-- Holds if this is a possible result of adding the list to the store S.
pub record IsAddResult (mode : TCComputation) (S : StoreView) (L : List EntityView) (r : Result StoreView EntitiesError)
    : Type 0 where
  pub partial : IfOk r (λ s. s.partial ≡ S.partial)
  pub adds : AddsEntities mode S.entities L r (λ s. s.entities)
  pub plain : (W : InputStore) → IsPlainStore W S → HaveNoIndirect L → AddsPlain mode W (map input_of L) r

-- Holds if this is a possible result of overwriting the store S with the list.
pub record IsUpsertResult (mode : TCComputation) (S : StoreView) (L : List EntityView) (r : Result StoreView EntitiesError)
    : Type 0 where
  pub partial : IfOk r (λ s. s.partial ≡ S.partial)
  pub upserts : UpsertsEntities mode S.entities L r
  pub strips : (W : InputStore) → IsPlainStore W S → StripsPlain mode W S.entities (uids_of L) r
  pub plain : (W : InputStore) → IsPlainStore W S → HaveNoIndirect L → UpsertsPlain mode W (map input_of L) r

-- Holds if this is a possible result of removing the uids from the store S.
pub record IsRemoveResult (mode : TCComputation) (S : StoreView) (U : List EntityUID) (r : Result StoreView EntitiesError)
    : Type 0 where
  pub partial : IfOk r (λ s. s.partial ≡ S.partial)
  pub removes : RemovesEntities mode S.entities U r
  pub plain : (W : InputStore) → IsPlainStore W S → RemovesPlain W U r

-- Holds if the result is the difference of the store S and a store that an edit can leave, or an error of the edit. P
-- holds for the possible results of the edit.
abbrev pub WouldChange : StoreView → (Result StoreView EntitiesError → Type 0) → Result DiffView EntitiesError → Type 0
WouldChange S P (Ok d) = (T : StoreView) × P (Ok T) × IsDiff S T d
WouldChange S P (Err e) = P (Err e)
