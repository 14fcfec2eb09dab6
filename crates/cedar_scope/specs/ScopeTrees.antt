-- The expressions of references and constraints.
use Rattle.std.specs.Prelude.{true}
use Rattle.cedar_terms.specs.LiteralTree.{bool_literal}
use Rattle.cedar_terms.specs.UidTrees.{uid_expr}
use Rattle.cedar_terms.specs.ExprTree.{ExprTree, val_node, var_node, slot_node, and_node, eq_node, in_node, is_node}
use Rattle.cedar_terms.specs.declared.slot.SlotId.{SlotId}
use Rattle.cedar_terms.specs.declared.slot.SlotId.TheVariants as slots
use Rattle.cedar_terms.specs.declared.var.Var.{Var}
use Rattle.cedar_terms.specs.declared.var.Var.TheVariants as vars
use Rattle.cedar_scope.specs.Scope.{Reference, to_uid, to_slot, Constraint, any, within, equals, of_type}
use Rattle.cedar_scope.specs.Scope.{of_type_within}
use Rattle.cedar_scope.specs.declared.variable.PrincipalOrResource.{PrincipalOrResource}
use Rattle.cedar_scope.specs.declared.variable.PrincipalOrResource.TheVariants.{Principal, Resource}

-- The variable of a request for this variable of a constraint.
abbrev pub var_of : PrincipalOrResource → Var
var_of Principal = vars.Principal
var_of Resource = vars.Resource

-- The slot of the variable.
abbrev pub slot_id_of : PrincipalOrResource → SlotId
slot_id_of Principal = slots.Principal
slot_id_of Resource = slots.Resource

-- The expression of the variable.
abbrev pub variable_expr : PrincipalOrResource → ExprTree
variable_expr v = var_node (var_of v)

-- The expression of a reference: the uid, or the slot.
abbrev pub reference_expr : SlotId → Reference → ExprTree
reference_expr s (to_uid u) = uid_expr u
reference_expr s to_slot = slot_node s

-- The expression of a constraint: `true`, `v in X`, `v == X`, `v is T`, or `v is T && v in X`.
abbrev pub constraint_expr : PrincipalOrResource → Constraint → ExprTree
constraint_expr v any = val_node (bool_literal true)
constraint_expr v (within r) = in_node (variable_expr v) (reference_expr (slot_id_of v) r)
constraint_expr v (equals r) = eq_node (variable_expr v) (reference_expr (slot_id_of v) r)
constraint_expr v (of_type t) = is_node (variable_expr v) t
constraint_expr v (of_type_within t r) =
    and_node (is_node (variable_expr v) t) (in_node (variable_expr v) (reference_expr (slot_id_of v) r))
