use Rattle.std.proofs.Common.{◌≡◌, ◌+◌, ◌*◌, ◌≤◌, drop}
use Rattle.std.specs.Prelude.{fold}
use Rattle.cedar_terms.specs.ExprTree.{expr_size, exprs_size, expr_trees}
use Rattle.cedar_terms.specs.ExprEquality.{exprs_hash}
use Rattle.cedar_terms.proofs.expr_hash.+feed.Given as goal

abbrev pub decreases-feed : goal.decreases-feed
decreases-feed g l = 2 * expr_size l.expr.now + 1

abbrev pub decreases-feed_all : goal.decreases-feed_all
decreases-feed_all g l = 2 * exprs_size (expr_trees l.exprs.now.items) + 2

abbrev pub invariant-feed_all-loop-expr : goal.invariant-feed_all-loop-expr
invariant-feed_all-loop-expr g l =
    (exprs_size (expr_trees (drop l.expr-index l.expr-items)) ≤ exprs_size (expr_trees l.exprs.items)) ×
    (fold g.H.Hasher.write l.state (exprs_hash (expr_trees (drop l.expr-index l.expr-items)))
    ≡ fold g.H.Hasher.write l.initial.state (exprs_hash (expr_trees l.exprs.items)))
