-- Calls with their arguments, as callers see them.
use Rattle.std.specs.Prelude.{map}
use Rattle.cedar_entity_maps.specs.Plain.{HaveNoIndirect, entities_in, input_of}
use Rattle.cedar_entities.specs.Calls.{Call, From, Add, Upsert, Remove, Partial}
use Rattle.cedar_replay.specs.declared.entities.EntityCall.{EntityCall}
use Rattle.cedar_replay.specs.declared.entities.EntityCall.TheVariants as calls

-- The call as callers see it.
abbrev pub call_of : EntityCall → Call
call_of (calls.From es) = From (map input_of es.items)
call_of (calls.Add es) = Add (map input_of (entities_in es.items))
call_of (calls.Upsert es) = Upsert (map input_of (entities_in es.items))
call_of (calls.Remove us) = Remove us.items
call_of calls.Partial = Partial

-- Whether no entity in a call has indirect ancestors.
abbrev pub EntitiesHaveNoIndirect : EntityCall → Type 0
EntitiesHaveNoIndirect (calls.From es) = HaveNoIndirect es.items
EntitiesHaveNoIndirect (calls.Add es) = HaveNoIndirect (entities_in es.items)
EntitiesHaveNoIndirect (calls.Upsert es) = HaveNoIndirect (entities_in es.items)
EntitiesHaveNoIndirect (calls.Remove us) = Unit {0}
EntitiesHaveNoIndirect calls.Partial = Unit {0}
