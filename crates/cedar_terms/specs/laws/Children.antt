-- The children of a node, and the traversal that starts from them.
use Rattle.std.specs.Prelude.{List, [], ◌∷◌}
use Rattle.cedar_terms.specs.ExprTree.{ExprTree, val_node, var_node, slot_node, unknown_node, set_node, call_node}
use Rattle.cedar_terms.specs.ExprTree.{not_node, binary_node, is_node, ExprTrees, no_exprs, expr_then}

-- The expressions of a list.
abbrev pub expr_list : ExprTrees → List ExprTree
expr_list no_exprs = []
expr_list (expr_then e es) = e ∷ expr_list es

-- The children of a node, from the first to the last.
abbrev pub children : ExprTree → List ExprTree
children (val_node l) = []
children (var_node v) = []
children (slot_node s) = []
children (unknown_node u) = []
children (set_node es) = expr_list es
children (call_node f es) = expr_list es
children (not_node e) = e ∷ []
children (binary_node o x y) = x ∷ y ∷ []
children (is_node e t) = e ∷ []
