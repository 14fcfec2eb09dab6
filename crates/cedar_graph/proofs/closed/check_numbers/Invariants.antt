use Rattle.std.proofs.Common.{◌≡◌, ◌≤◌, length}
use Rattle.cedar_graph.specs.laws.Checks.{AreClosedBelow}
use Rattle.cedar_graph.specs.laws.Readings.{IsArc}
use Rattle.cedar_graph.specs.laws.Writings.{AreAtMost, StartsAt}
use Rattle.cedar_graph.proofs.closed.check_numbers.Given as goal

abbrev pub invariant-loop-x : goal.invariant-loop-x
invariant-loop-x g l = record {
  marks_len : length l.known.marks.items ≡ length l.arcs.keys.keys;
  marks_below : AreAtMost l.x l.known.marks.items;
  place : l.place ≤ length l.arcs.from.items;
  starts : StartsAt l.arcs.from.items l.x l.place;
  closed : AreClosedBelow (IsArc l.arcs) l.x;
}
