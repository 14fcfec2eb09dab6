use Rattle.std.proofs.Common.{◌≡◌, ◌<◌, ◌≤◌, ℕ, slice_index}
use Rattle.cedar_graph.proofs.close.next_known.Given as goal

abbrev pub invariant-loop-place : goal.invariant-loop-place
invariant-loop-place l = (n : ℕ) → l.start ≤ n → n < l.place
    → slice_index l.known.marks.items (slice_index l.numbers n) ≡ l.known.mark → ⊥
