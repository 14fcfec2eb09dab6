-- The slots in the expressions of constraints.
use Rattle.std.specs.Prelude.{◌≡◌, List, [], ◌∷◌, if◌then◌else◌, refl}
use Rattle.cedar_terms.specs.Walk.{slots_of}
use Rattle.cedar_terms.specs.declared.slot.SlotId.{SlotId}
use Rattle.cedar_scope.specs.Scope.{to_uid, to_slot, Constraint, any, within, equals, of_type, of_type_within}
use Rattle.cedar_scope.specs.ScopeReads.{has_slot}
use Rattle.cedar_scope.specs.ScopeTrees.{slot_id_of, constraint_expr}
use Rattle.cedar_scope.specs.declared.variable.PrincipalOrResource.{PrincipalOrResource}

-- The slot of the variable, if the constraint refers to it, else nothing.
abbrev pub constraint_slots : PrincipalOrResource → Constraint → List SlotId
constraint_slots v c = if has_slot c then slot_id_of v ∷ [] else []

-- The slots in the expression of a constraint are `constraint_slots`.
pub slots_of-constraint_expr : (v : PrincipalOrResource) (c : Constraint)
    → slots_of (constraint_expr v c) ≡ constraint_slots v c
slots_of-constraint_expr v any = refl
slots_of-constraint_expr v (within (to_uid u)) = refl
slots_of-constraint_expr v (within to_slot) = refl
slots_of-constraint_expr v (equals (to_uid u)) = refl
slots_of-constraint_expr v (equals to_slot) = refl
slots_of-constraint_expr v (of_type t) = refl
slots_of-constraint_expr v (of_type_within t (to_uid u)) = refl
slots_of-constraint_expr v (of_type_within t to_slot) = refl
