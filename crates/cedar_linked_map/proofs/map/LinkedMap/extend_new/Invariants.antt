use Rattle.std.proofs.Common.{◌≡◌, ◌≤◌, ◌++◌, length}
use Rattle.indexmap.specs.IndexMap.{spare, hasher_of}
use Rattle.cedar_linked_map.proofs.map.LinkedMap.extend_new.Given as goal

abbrev pub invariant-loop-key : goal.invariant-loop-key
invariant-loop-key g l = record {
  entries : l.self.entries ++ l.key-iterator ≡ l.initial.self.entries ++ l.fn.entries.entries;
  room : length l.key-iterator ≤ spare l.self;
  hasher : hasher_of l.self ≡ hasher_of l.initial.self;
}
