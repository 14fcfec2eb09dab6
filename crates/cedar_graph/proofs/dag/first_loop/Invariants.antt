use Rattle.cedar_graph.specs.laws.Readings.{IsArc}
use Rattle.cedar_graph.specs.laws.Writings.{NoneLoops}
use Rattle.cedar_graph.proofs.dag.first_loop.Given as goal

abbrev pub invariant-loop-x : goal.invariant-loop-x
invariant-loop-x g l = record { none : NoneLoops (IsArc l.fn.read.reading) l.x }
