use Rattle.std.proofs.Common.{◌<◌, ℕ, slice_index}
use Rattle.cedar_graph.proofs.dag.descends.Given as goal

abbrev pub invariant-loop-k : goal.invariant-loop-k
invariant-loop-k g l = (j : ℕ) → j < l.k → slice_index l.reached.component.items (slice_index l.read.to.items j)
    < slice_index l.reached.component.items (slice_index l.read.from.items j)
