use Rattle.std.proofs.Common.{arith}
use Rattle.cedar_components.specs.laws.Arcs.{IsArc}
use Rattle.cedar_components.proofs.Steps.{order_from_search}
use Rattle.cedar_components.proofs.search.finish_order.Goals as goal

pub returns : goal.returns
returns c =
    let s = c.loop-root.s in
    let i = c.loop-root.invariant in
    order_from_search (IsArc c.args.arcs.now) c.args.n s.start.items s.path.items s.out.items i.searches.search
    i.no_path (λ x h. i.so_far x (omega arith))
