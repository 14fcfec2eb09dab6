-- Edits of a store: their results, and the store after an error.
use Rattle.std.specs.Prelude.{◌≡◌, ◌⊎◌, Result, Ok, Err}
use Rattle.cedar_entity.specs.declared.err.EntitiesError.{EntitiesError}
use Rattle.cedar_entity.specs.declared.err.EntitiesError.TheVariants.{Memory}
use Rattle.cedar_entity_maps.specs.Plain.{StoreView, HaveNoIndirect, entities_in}
use Rattle.cedar_entity_maps.specs.declared.modes.TCComputation.{TCComputation}
use Rattle.cedar_entity_maps.specs.declared.modes.TCComputation.TheVariants.{ComputeNow}
use Rattle.cedar_c_lists.specs.declared.reason.Reason.{Reason}
use Rattle.cedar_c_stores.specs.Stores.{IsAddResult, IsUpsertResult, IsRemoveResult, StoresResult, emptied}
use Rattle.cedar_c_stores.specs.declared.edits.Edit.{Edit}
use Rattle.cedar_c_stores.specs.declared.edits.Edit.TheVariants.{Add, Upsert, Remove}
use Rattle.cedar_c_stores.specs.declared.store_state.StoreState.{StoreState}

-- Holds if `given` is a result of an edit of the store S.
abbrev pub IsEditResult : TCComputation → Edit → StoreView → Result StoreView EntitiesError → Type 0
IsEditResult m (Add v) S given = IsAddResult m (entities_in v.items) S given
IsEditResult m (Upsert v) S given = IsUpsertResult m (entities_in v.items) S given
IsEditResult m (Remove v) S given = IsRemoveResult m v.items S given

-- Holds if an edit in mode m keeps a plain store plain. A dry run then finds all errors of the edit except an
-- allocation failure.
abbrev pub StaysPlain : TCComputation → Edit → Type 0
StaysPlain m (Add v) = (m ≡ ComputeNow) × HaveNoIndirect (entities_in v.items)
StaysPlain m (Upsert v) = (m ≡ ComputeNow) × HaveNoIndirect (entities_in v.items)
StaysPlain m (Remove v) = Unit {0}

-- Holds if the edit x of the store S can fail only because an allocation fails.
abbrev pub IsSure : TCComputation → Edit → StoreView → Type 0
IsSure m x S = (e : EntitiesError) → IsEditResult m x S (Err e) → e ≡ Memory

-- Holds if N is the result of an edit of O, or the edit failed with the same error and N is empty. N is then partial
-- exactly if O is.
abbrev pub RemainsOrEmpties : {A : Type 0} → StoreView → Result StoreView EntitiesError → Result A EntitiesError
    → StoreView → Type 0
RemainsOrEmpties O (Ok S) (Ok a) N = N ≡ S
RemainsOrEmpties O (Err e) (Err f) N = (f ≡ e) × (N ≡ emptied O)
RemainsOrEmpties O given answer N = ⊥

-- Holds if N is the result of an edit of O, or the edit failed with the same error and N is O. After an allocation
-- failure N can also be empty, and is then partial exactly if O is.
abbrev pub RemainsOrStays : {A : Type 0} → StoreView → Result StoreView EntitiesError → Result A EntitiesError → StoreView
    → Type 0
RemainsOrStays O (Ok S) (Ok a) N = N ≡ S
RemainsOrStays O (Err e) (Err f) N = (f ≡ e) × ((N ≡ O) ⊎ ((e ≡ Memory) × (N ≡ emptied O)))
RemainsOrStays O given answer N = ⊥

-- Holds if N is the store after the edit x of the store O, where r is the result of the call.
abbrev pub Edits : {A : Type 0} → TCComputation → Edit → StoreView → Result A EntitiesError → StoreView → Type 0
Edits m x O r N = (given : Result StoreView EntitiesError) × IsEditResult m x O given × RemainsOrStays O given r N

-- Holds if k has the store after the edit x of the store O, where r is the result of the call.
abbrev pub EditsState : {A B H : Type 0} → TCComputation → Edit → StoreView → Result A Reason → StoreState B H → Type 0
EditsState m x O r k = (given : Result StoreView EntitiesError) × IsEditResult m x O given × StoresResult given O r k
