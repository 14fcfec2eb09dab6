-- An expression inside another expression is smaller.
use Rattle.std.specs.Prelude.{◌≤◌, ◌+◌, max, List, [], ◌∷◌}
use Rattle.std.proofs.Common.{arith}
use denote.Param.Weighed.{most}
use Rattle.cedar_terms.specs.ExprTree.{ExprTree, expr_size, exprs_size, expr_trees}
use Rattle.cedar_terms.specs.ExprViews.{node_tree}
use Rattle.cedar_terms.specs.declared.expr.ExprKind.{ExprKind}
use Rattle.cedar_terms.specs.declared.expr.ExprKind.TheVariants as kinds
use Rattle.cedar_terms.specs.declared.expr.Expr.TheDeep.{deep-ExprKind}

most_exprs : (es : List ExprTree) → most (λ e. expr_size e + 1) es ≤ exprs_size (expr_trees es) + 1
most_exprs [] = omega arith
most_exprs (e ∷ es) = omega (arith, most_exprs es)

-- The depth of the parts is at most the size of the expression.
pub deep_le_size : (k : ExprKind) → max (deep-ExprKind k) 0 ≤ expr_size (node_tree k)
deep_le_size (kinds.Lit l) = omega arith
deep_le_size (kinds.Var v) = omega arith
deep_le_size (kinds.Slot s) = omega arith
deep_le_size (kinds.Unknown u) = omega arith
deep_le_size (kinds.Set es) = omega (arith, most_exprs es.value.items)
deep_le_size (kinds.Call f es) = omega (arith, most_exprs es.value.items)
deep_le_size (kinds.Not e) = omega arith
deep_le_size (kinds.Binary o x y) = omega arith
deep_le_size (kinds.Is e t) = omega arith
