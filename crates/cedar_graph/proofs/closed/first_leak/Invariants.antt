use Rattle.cedar_graph.specs.laws.Checks.{KeepsKnown}
use Rattle.cedar_graph.proofs.closed.first_leak.Given as goal

abbrev pub invariant-loop-k : goal.invariant-loop-k
invariant-loop-k g l = record { keeps : KeepsKnown l.read l.known l.k }
