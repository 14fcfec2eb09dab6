use Rattle.std.proofs.Common.{◌≡◌, ◌++◌, map, take}
use Rattle.cedar_terms.proofs.expr_walk.push_all.Given as goal

abbrev pub invariant-loop-expr : goal.invariant-loop-expr
invariant-loop-expr l = map (λ e. e.now) l.pending.items
    ≡ map (λ e. e.now) l.initial.pending.items ++ take l.expr-index l.expr-items
