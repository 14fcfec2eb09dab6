use Rattle.std.proofs.Common.{◌≡◌, ◌≤◌, ◌++◌, length}
use Rattle.std.specs.List.{range_with_len}
use Rattle.std.specs.List.Sorted.{IsPermutation}
use Rattle.cedar_graph.proofs.order.parts_of.Given as goal

abbrev pub invariant-loop-number : goal.invariant-loop-number
invariant-loop-number g l = record {
  within : l.number ≤ length l.keys;
  keys : length l.parts.keys.items ≡ length l.parts.led.items;
  all : IsPermutation (range_with_len 0 l.number) (l.parts.led.items ++ l.parts.others.items);
}
