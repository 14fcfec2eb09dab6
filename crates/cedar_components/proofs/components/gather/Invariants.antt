use Rattle.std.proofs.Common.{◌-◌, ◌≤◌, length, slice_index}
use Rattle.cedar_components.specs.laws.Components.{IsGathering, HasComponent, work_left}
use Rattle.cedar_components.proofs.components.gather.Given as goal

abbrev pub invariant-loop-i : goal.invariant-loop-i
invariant-loop-i l = record {
  bound : l.i ≤ length l.s.queue.items;
  state : IsGathering l.graph l.b l.i l.s;
  root : HasComponent l.s (slice_index l.graph.order.now (l.b - 1));
}

abbrev pub decreases-loop-i : goal.decreases-loop-i
decreases-loop-i l = work_left l.s - l.i
