use Rattle.std.proofs.Common.{◌≡◌, map}
use Rattle.std.specs.List.{filter_map, find}
use Rattle.std.specs.Vec.Iter.{into_iter_items}
use Rattle.cedar_terms.specs.Walk.{function_of, is_unknown_function, first_unknown_function}
use Rattle.cedar_terms.proofs.expr.Expr.try_validate.Given as goal

abbrev pub invariant-loop-node : goal.invariant-loop-node
invariant-loop-node l =
    find is_unknown_function (filter_map function_of (map (λ e. e.now) (into_iter_items l.node-iterator)))
    ≡ first_unknown_function l.self
