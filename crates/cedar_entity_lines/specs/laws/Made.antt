-- The entity that a line declares.
use Rattle.std.specs.Prelude.{◌≡◌, List}
use Rattle.cedar_ids.specs.declared.entity.EntityUID.{EntityUID}
use Rattle.cedar_entity.specs.View.{EntityView}
use Rattle.cedar_entity_maps.specs.Plain.{HasNoIndirect, input_of}
use Rattle.cedar_entity_maps.specs.InputStore.{input_entity}

-- Whether an entity has this uid and these parents, and nothing else.
abbrev pub IsMade : EntityView → EntityUID → List EntityUID → Type 0
IsMade e u ps = (input_of e ≡ input_entity u ps) × HasNoIndirect e
