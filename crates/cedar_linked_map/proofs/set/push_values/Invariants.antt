use Rattle.std.proofs.Common.{◌≡◌, ◌≤◌, ◌++◌, length}
use Rattle.std.specs.List.{IsDistinct}
use Rattle.std.specs.Map.{keys_of}
use Rattle.indexmap.specs.IndexMap.{spare}
use Rattle.cedar_linked_map.proofs.set.push_values.Given as goal

abbrev pub invariant-loop-value : goal.invariant-loop-value
invariant-loop-value g l = record {
  keys : keys_of l.map.entries ++ l.value-iterator ≡ l.fn.set.keys;
  room : length l.value-iterator ≤ spare l.map;
  unique : IsDistinct g.T.PartialEq.eq l.fn.set.keys;
}
