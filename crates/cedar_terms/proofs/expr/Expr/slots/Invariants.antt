use Rattle.std.proofs.Common.{◌≡◌, ◌++◌, map, drop}
use Rattle.std.specs.List.{filter_map}
use Rattle.cedar_terms.specs.Walk.{slot_of, slots_of}
use Rattle.cedar_terms.proofs.expr.Expr.slots.Given as goal

abbrev pub invariant-loop-node : goal.invariant-loop-node
invariant-loop-node l = l.slots.items ++ filter_map slot_of (map (λ e. e.now) (drop l.node-index l.node-items))
    ≡ slots_of l.self
