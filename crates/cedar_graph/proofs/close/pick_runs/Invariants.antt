use Rattle.std.proofs.Common.{◌≡◌, ◌<◌, ◌≤◌, ◌-◌, length, slice_index}
use Rattle.cedar_graph.specs.laws.Writings.{IsRowTo, KeepsOrder}
use Rattle.cedar_graph.proofs.close.pick_runs.Given as goal

abbrev pub invariant-loop-end : goal.invariant-loop-end
invariant-loop-end g l = record {
  row : IsRowTo g.K.PartialEq.eq l.keys l.numbers l.end l.known l.row.items;
  order : KeepsOrder g.K.PartialEq.eq l.keys l.numbers l.end l.row.items;
  within : l.end ≤ length l.numbers;
  found : l.end < length l.numbers → slice_index l.known.marks.items (slice_index l.numbers l.end) ≡ l.known.mark;
}

abbrev pub decreases-loop-end : goal.decreases-loop-end
decreases-loop-end g l = length l.numbers - l.end
