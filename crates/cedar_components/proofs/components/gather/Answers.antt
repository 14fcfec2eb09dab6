use Rattle.std.proofs.Common.{◌<◌, ◌≤◌, ◌-◌, arith, get_or, length}
use Rattle.std.proofs.lemmas.Grind.{common_steps}
use Rattle.cedar_components.specs.laws.Arcs.{IsArc}
use Rattle.cedar_components.proofs.ComponentSteps.{lowered}
use Rattle.cedar_components.proofs.Gathering.{root_joins, joins_has}
use Rattle.cedar_components.proofs.components.gather.Goals as goal

pub loop-i-init : goal.loop-i-init
loop-i-init c =
    let g = c.args.graph.now in
    let b = c.args.b in
    let s = c.args.s.now in
    let t = c.join.new.s in
    let r = c.requires in
    let j = c.in_ok-join.ensures in
    let order = g.order.now in
    let root = get_or order (b - 1) 0 in
    let last : b - 1 < length order = omega (arith, r.some, r.state.in_order) in
    let inside = r.state.searched.order.inside (b - 1) last in
    let within : root < length s.component.items = omega (arith, r.state.components.component_len, inside) in
    record {
      bound = omega arith;
      state = root_joins g b s t r.state r.some r.fresh j;
      root = joins_has g b root s t j within r.some;
    }

pub returns : goal.returns
returns c =
    let g = c.args.graph.now in
    let s = c.loop-i.s in
    let i = c.loop-i.invariant in
    let whole : length s.queue.items ≤ c.loop-i.i = grind (arith, common_steps) in
    record {
      searched = i.state.searched;
      in_order = omega (arith, i.state.in_order);
      empty = c.clear.ensures.items;
      components = lowered (IsArc g.arcs) g.numbers g.order.now c.args.b s.component.items s.queue.items c.loop-i.i
          i.state.components whole i.state.some i.root;
    }
