use Rattle.std.proofs.Common.{ℕ, ◌<◌, ◌≤◌, slice_index}
use Rattle.cedar_components.proofs.single.none_leads_up.Given as goal

abbrev pub invariant-loop-k : goal.invariant-loop-k
invariant-loop-k l =
    (j : ℕ) → j < l.k → slice_index l.component (slice_index l.to j) ≤ slice_index l.component (slice_index l.from j)
