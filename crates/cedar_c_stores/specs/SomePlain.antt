-- Stores that are known to be plain.
use Rattle.cedar_entity_maps.specs.Plain.{StoreView, IsPlainStore}
use Rattle.cedar_entity_maps.specs.InputStore.{InputStore}

-- Holds if S is the plain store of some input store.
abbrev pub IsSomePlain : StoreView → Type 0
IsSomePlain S = (W : InputStore) × IsPlainStore W S
