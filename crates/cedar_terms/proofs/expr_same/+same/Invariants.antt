use Rattle.std.proofs.Common.{◌≡◌, ◌+◌, ◌*◌, ◌≤◌, drop}
use Rattle.std.specs.Slice.Iter.{iter_rest}
use Rattle.cedar_terms.specs.ExprTree.{expr_size, exprs_size, expr_trees}
use Rattle.cedar_terms.specs.ExprEquality.{same_exprs}
use Rattle.cedar_terms.proofs.expr_same.+same.Given as goal

abbrev pub decreases-same : goal.decreases-same
decreases-same l = 2 * expr_size l.a.now + 1

abbrev pub decreases-same_lists : goal.decreases-same_lists
decreases-same_lists l = 2 * exprs_size (expr_trees l.a.now.items) + 2

abbrev pub invariant-same_lists-loop-x : goal.invariant-same_lists-loop-x
invariant-same_lists-loop-x l =
    (exprs_size (expr_trees (drop l.x-index l.x-items)) ≤ exprs_size (expr_trees l.a.items)) ×
    (same_exprs (expr_trees (drop l.x-index l.x-items)) (expr_trees (iter_rest l.others))
    ≡ same_exprs (expr_trees l.a.items) (expr_trees l.b.items))
