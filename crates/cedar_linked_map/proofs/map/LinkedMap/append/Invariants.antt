use Rattle.std.proofs.Common.{◌≡◌, ◌≤◌, length}
use Rattle.indexmap.specs.IndexMap.{spare, hasher_of, insert_all}
use Rattle.cedar_linked_map.proofs.map.LinkedMap.append.Given as goal

abbrev pub invariant-loop-key : goal.invariant-loop-key
invariant-loop-key g l = record {
  entries : insert_all g.K.PartialEq.eq l.self.entries l.other.entries
      ≡ insert_all g.K.PartialEq.eq l.initial.self.entries l.initial.other.entries;
  room : length l.other.entries ≤ spare l.self;
  hasher : hasher_of l.self ≡ hasher_of l.initial.self;
}

abbrev pub decreases-loop-key : goal.decreases-loop-key
decreases-loop-key g l = length l.other.entries
