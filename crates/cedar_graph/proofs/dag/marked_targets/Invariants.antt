use Rattle.cedar_graph.specs.laws.Writings.{HasMarks}
use Rattle.cedar_graph.proofs.dag.marked_targets.Given as goal

abbrev pub invariant-loop-y : goal.invariant-loop-y
invariant-loop-y g l = record { marks : HasMarks l.read l.y-index l.led.items }
