use Rattle.std.proofs.Common.{◌≡◌, ℕ, ◌<◌, slice_index}
use Rattle.cedar_graph.proofs.closed.knows_reached.Given as goal

abbrev pub invariant-loop-y : goal.invariant-loop-y
invariant-loop-y g l = record {
  known : (n : ℕ) → n < l.y-index → slice_index l.known.marks.items (slice_index l.y-items n) ≡ l.known.mark;
}
