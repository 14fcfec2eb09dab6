-- References and constraints as callers see them.
use Rattle.cedar_ids.specs.UidOf.{uid_parts}
use Rattle.cedar_ids.specs.Views.{type_name}
use Rattle.cedar_scope.specs.Scope.{Reference, to_uid, to_slot, Constraint, any, within, equals, of_type}
use Rattle.cedar_scope.specs.Scope.{of_type_within}
use Rattle.cedar_scope.specs.declared.reference.EntityReference.{EntityReference}
use Rattle.cedar_scope.specs.declared.reference.EntityReference.TheVariants as references
use Rattle.cedar_scope.specs.declared.constraint.PrincipalOrResourceConstraint.{PrincipalOrResourceConstraint}
use Rattle.cedar_scope.specs.declared.constraint.PrincipalOrResourceConstraint.TheVariants as constraints

-- The reference without its location.
abbrev pub reference_of : EntityReference → Reference
reference_of (references.EUID u) = to_uid (uid_parts u.value)
reference_of (references.Slot loc) = to_slot

-- The constraint without its locations.
abbrev pub constraint_of : PrincipalOrResourceConstraint → Constraint
constraint_of constraints.Any = any
constraint_of (constraints.In r) = within (reference_of r)
constraint_of (constraints.Eq r) = equals (reference_of r)
constraint_of (constraints.Is t) = of_type (type_name t.value)
constraint_of (constraints.IsIn t r) = of_type_within (type_name t.value) (reference_of r)
