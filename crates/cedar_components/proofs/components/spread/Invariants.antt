use Rattle.std.proofs.Common.{◌≡◌, ℕ, ◌-◌, ◌<◌, ◌≤◌, length, slice_index}
use Rattle.cedar_components.specs.laws.Components.{Gathers, HasComponent}
use Rattle.cedar_components.proofs.components.spread.Given as goal

abbrev pub invariant-loop-p : goal.invariant-loop-p
invariant-loop-p l =
    let to = l.graph.arcs.to.now in
    record {
      gathers : Gathers l.graph l.b l.i l.fn.s l.s;
      same : slice_index l.s.queue.items l.i ≡ l.x;
      bound : l.p ≤ length to;
      ends : 0 < l.p → slice_index to (l.p - 1) ≡ l.x;
      read : (j : ℕ) → l.p ≤ j → j < length to → slice_index to j ≡ l.x
          → HasComponent l.s (slice_index l.graph.arcs.from.now j);
    }

abbrev pub decreases-loop-p : goal.decreases-loop-p
decreases-loop-p l = l.p
