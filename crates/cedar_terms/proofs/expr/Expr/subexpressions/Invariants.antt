use Rattle.std.proofs.Common.{◌≡◌, ◌++◌, map}
use Rattle.cedar_terms.specs.Walk.{walk}
use Rattle.cedar_terms.proofs.Walks.{walks, nodes}
use Rattle.cedar_terms.proofs.expr.Expr.subexpressions.Given as goal

abbrev pub invariant-loop-node : goal.invariant-loop-node
invariant-loop-node l = map (λ e. e.now) l.met.items ++ walks (map (λ e. e.now) l.pending.items) ≡ walk l.self

abbrev pub decreases-loop-node : goal.decreases-loop-node
decreases-loop-node l = nodes (map (λ e. e.now) l.pending.items)
