-- The expression of a borrowed root node.
use Rattle.cedar_ids.specs.Views.{type_name}
use Rattle.cedar_terms.specs.ExprTree.{ExprTree, val_node, var_node, slot_node, unknown_node, set_node, call_node}
use Rattle.cedar_terms.specs.ExprTree.{not_node, and_node, eq_node, in_node, is_node, expr_trees}
use Rattle.cedar_terms.specs.Views.{literal_tree}
use Rattle.cedar_terms.specs.declared.expr_node.ExprNode.{ExprNode}
use Rattle.cedar_terms.specs.declared.expr_node.ExprNode.TheVariants as nodes

-- The expression with this root node.
abbrev pub expr_at : ExprNode → ExprTree
expr_at (nodes.Val l) = val_node (literal_tree l.now)
expr_at (nodes.Var v) = var_node v
expr_at (nodes.Slot s) = slot_node s
expr_at (nodes.Unknown u) = unknown_node u.now
expr_at (nodes.Set es) = set_node (expr_trees es.now)
expr_at (nodes.Call f es) = call_node f.now (expr_trees es.now)
expr_at (nodes.Not e) = not_node e.now
expr_at (nodes.And x y) = and_node x.now y.now
expr_at (nodes.Eq x y) = eq_node x.now y.now
expr_at (nodes.In x y) = in_node x.now y.now
expr_at (nodes.Is e t) = is_node e.now (type_name t.now)
