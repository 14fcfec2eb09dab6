use Rattle.std.proofs.Common.{ℕ, arith, ap, get_or}
use Rattle.cedar_graph.specs.laws.Readings.{IsArc}
use Rattle.cedar_graph.proofs.Loops.{none_down}
use Rattle.cedar_graph.proofs.dag.descends.Goals as goal

pub returns : goal.returns
returns g c = λ _.
    let place = λ (x : ℕ). get_or c.args.reached.now.component.items x 0 in
    none_down (IsArc c.args.read.now) place (λ a b e.
    omega (arith, c.loop-k.invariant e.0 (omega (arith, e.1)), ap place e.2, ap place e.3))
