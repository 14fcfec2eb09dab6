-- References and constraints as callers see them. Locations are not part of them.
use Rattle.cedar_ids.specs.Name.{NameParts}
use Rattle.cedar_ids.specs.Uid.{UidParts}

-- A reference of a constraint: a uid, or the slot of its variable.
pub data Reference : Type 0 where
  to_uid : UidParts → Reference
  to_slot : Reference

-- The condition on a principal or a resource: any entity, `in` a reference, `==` a reference, `is` a type, or both `is`
-- a type and `in` a reference.
pub data Constraint : Type 0 where
  any : Constraint
  within : Reference → Constraint
  equals : Reference → Constraint
  of_type : NameParts → Constraint
  of_type_within : NameParts → Reference → Constraint
