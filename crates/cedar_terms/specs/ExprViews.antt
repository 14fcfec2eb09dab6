-- The contents of an expression's node as callers see them.
use Rattle.cedar_ids.specs.Views.{type_name}
use Rattle.cedar_terms.specs.ExprTree.{Operator, and_operator, eq_operator, in_operator, ExprTree, val_node, var_node}
use Rattle.cedar_terms.specs.ExprTree.{slot_node, unknown_node, set_node, call_node, not_node, binary_node, is_node}
use Rattle.cedar_terms.specs.ExprTree.{expr_trees}
use Rattle.cedar_terms.specs.Views.{literal_tree}
use Rattle.cedar_terms.specs.declared.expr.BinaryOp.{BinaryOp}
use Rattle.cedar_terms.specs.declared.expr.BinaryOp.TheVariants as operators
use Rattle.cedar_terms.specs.declared.expr.ExprKind.{ExprKind}
use Rattle.cedar_terms.specs.declared.expr.ExprKind.TheVariants as kinds

-- The operator as callers see it.
abbrev pub operator_of : BinaryOp → Operator
operator_of operators.And = and_operator
operator_of operators.Eq = eq_operator
operator_of operators.In = in_operator

-- The expression with this kind and content.
abbrev pub node_tree : ExprKind → ExprTree
node_tree (kinds.Lit l) = val_node (literal_tree l)
node_tree (kinds.Var v) = var_node v
node_tree (kinds.Slot s) = slot_node s
node_tree (kinds.Unknown u) = unknown_node u.value
node_tree (kinds.Set es) = set_node (expr_trees es.value.items)
node_tree (kinds.Call f es) = call_node f (expr_trees es.value.items)
node_tree (kinds.Not e) = not_node e.value
node_tree (kinds.Binary o x y) = binary_node (operator_of o) x.value y.value
node_tree (kinds.Is e t) = is_node e.value (type_name t)
