-- The printed texts of constraints.
use Rattle.std.specs.Prelude.{ℕ, List, ◌++◌, Bool, true, Option, Some, None, if◌then◌else◌, codes}
use Rattle.cedar_ids.specs.Printed.{printed_name, printed_uid}
use Rattle.cedar_terms.specs.SlotTree.{slot_text}
use Rattle.cedar_terms.specs.UidTrees.{is_ascii_uid}
use Rattle.cedar_terms.specs.VarTree.{var_text}
use Rattle.cedar_terms.specs.declared.slot.SlotId.{SlotId}
use Rattle.cedar_scope.specs.Scope.{Reference, to_uid, to_slot, Constraint, any, within, equals, of_type}
use Rattle.cedar_scope.specs.Scope.{of_type_within}
use Rattle.cedar_scope.specs.ScopeTrees.{var_of, slot_id_of}
use Rattle.cedar_scope.specs.declared.variable.PrincipalOrResource.{PrincipalOrResource}

-- The text of the variable.
abbrev pub variable_text : PrincipalOrResource → List ℕ
variable_text v = var_text (var_of v)

-- The text of a reference: the printed uid, or the slot.
abbrev pub reference_text : SlotId → Reference → List ℕ
reference_text s (to_uid u) = printed_uid u
reference_text s to_slot = slot_text s

-- The text of a constraint: `v`, `v in X`, `v == X`, `v is T` or `v is T in X`.
abbrev pub constraint_text : PrincipalOrResource → Constraint → List ℕ
constraint_text v any = variable_text v
constraint_text v (within r) = variable_text v ++ (codes " in " ++ reference_text (slot_id_of v) r)
constraint_text v (equals r) = variable_text v ++ (codes " == " ++ reference_text (slot_id_of v) r)
constraint_text v (of_type t) = variable_text v ++ (codes " is " ++ printed_name t)
constraint_text v (of_type_within t r) =
    variable_text v ++ (codes " is " ++ (printed_name t ++ (codes " in " ++ reference_text (slot_id_of v) r)))

-- Whether the text of a reference is ASCII.
abbrev pub is_ascii_reference : Reference → Bool
is_ascii_reference (to_uid u) = is_ascii_uid u
is_ascii_reference to_slot = true

-- Whether the eid in a constraint, if there is one, is ASCII.
abbrev pub is_ascii_constraint : Constraint → Bool
is_ascii_constraint any = true
is_ascii_constraint (within r) = is_ascii_reference r
is_ascii_constraint (equals r) = is_ascii_reference r
is_ascii_constraint (of_type t) = true
is_ascii_constraint (of_type_within t r) = is_ascii_reference r

-- The specified output of printing a constraint: its text if its eid is ASCII, else unspecified.
abbrev pub constraint_output : PrincipalOrResource → Constraint → Option (List ℕ)
constraint_output v c = if is_ascii_constraint c then Some (constraint_text v c) else None
