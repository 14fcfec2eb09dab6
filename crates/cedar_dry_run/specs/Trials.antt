-- The result of a dry run of an edit that computes the closure.
use Rattle.std.specs.Prelude.{List, Result, Ok, Err}
use Rattle.cedar_entity.specs.View.{EntityView}
use Rattle.cedar_entity.specs.declared.err.EntitiesError.{EntitiesError}
use Rattle.cedar_entities.specs.Calls.{Call, Passes, IsErrorAs}
use Rattle.cedar_entities.specs.Changes.{AddsEntities, UpsertsEntities}
use Rattle.cedar_entity_maps.specs.Plain.{StoreView, EntityMap}
use Rattle.cedar_entity_maps.specs.InputStore.{InputStore}
use Rattle.cedar_entity_maps.specs.declared.modes.TCComputation.TheVariants.{ComputeNow}

-- Holds if a dry run of a call on the plain store of W may have this result: after `Ok` the call succeeds (unless an
-- allocation fails), and an error is an error of the call.
abbrev pub Tries : {A : Type 0} → InputStore → Call → Result A EntitiesError → Type 0
Tries W c (Ok a) = Passes W c
Tries W c (Err e) = IsErrorAs W c e

-- Holds if e is an error of adding the list to D in the mode `ComputeNow`.
abbrev pub IsDryAddError : EntityMap → List EntityView → EntitiesError → Type 0
IsDryAddError D L e = AddsEntities {A = StoreView} ComputeNow D L (Err e) (λ s. s.entities)

-- Holds if e is an error of overwriting D with the list in the mode `ComputeNow`.
abbrev pub IsDryUpsertError : EntityMap → List EntityView → EntitiesError → Type 0
IsDryUpsertError D L e = UpsertsEntities ComputeNow D L (Err e)
