use Rattle.cedar_components.specs.laws.Components.{IsGathered}
use Rattle.cedar_components.proofs.components.make_components.Given as goal

abbrev pub invariant-loop-b : goal.invariant-loop-b
invariant-loop-b l = IsGathered l.graph l.b l.s

abbrev pub decreases-loop-b : goal.decreases-loop-b
decreases-loop-b l = l.b
