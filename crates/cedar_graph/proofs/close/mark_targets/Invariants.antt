use Rattle.std.proofs.Common.{◌≡◌, ◌<◌, ◌≤◌, ◌+◌, ◌-◌, ℕ, length, slice_index}
use Rattle.cedar_components.specs.Reach.{HasArc}
use Rattle.cedar_graph.specs.laws.Writings.{AreAtMost}
use Rattle.cedar_graph.proofs.close.mark_targets.Given as goal

abbrev pub invariant-loop-k : goal.invariant-loop-k
invariant-loop-k l = record {
  len : length l.known.marks.items ≡ length l.fn.known.marks.items;
  below : AreAtMost (l.x + 1) l.known.marks.items;
  marked : (y : ℕ) → y < length l.known.marks.items → slice_index l.known.marks.items y ≡ l.x + 1
      → HasArc l.from l.to l.x y;
  grows : (y : ℕ) → slice_index l.fn.known.marks.items y ≤ slice_index l.known.marks.items y;
  begun : l.e ≤ l.k;
  passed : (j : ℕ) → l.e ≤ j → j < l.k → slice_index l.from j ≡ l.x;
  targets : (j : ℕ) → l.e ≤ j → j < l.k → slice_index l.known.marks.items (slice_index l.to j) ≡ l.x + 1;
  last : (j : ℕ) → l.e ≤ j → j + 1 ≡ l.k → slice_index l.to j ≡ l.known.last;
  place : l.k ≤ length l.from;
}

abbrev pub decreases-loop-k : goal.decreases-loop-k
decreases-loop-k l = length l.from - l.k
