use Rattle.std.proofs.Common.{◌≡◌, ◌++◌, map}
use Rattle.std.specs.List.{filter_map}
use Rattle.std.specs.Vec.Iter.{into_iter_items}
use Rattle.cedar_terms.specs.Walk.{unknown_of, unknowns_of}
use Rattle.cedar_terms.proofs.expr.Expr.unknowns.Given as goal

abbrev pub invariant-loop-node : goal.invariant-loop-node
invariant-loop-node l = map (λ u. u.now) l.unknowns.items
    ++ filter_map unknown_of (map (λ e. e.now) (into_iter_items l.node-iterator)) ≡ unknowns_of l.self
