use Rattle.std.specs.Prelude.{◌≡◌, take}
use Rattle.std.specs.FinSet as set
use Rattle.cedar_uid_sets.proofs.uid_set.UidSet.insert_each.Given as goal

-- The uids before the index were inserted.
abbrev pub invariant-loop-shared : goal.invariant-loop-shared
invariant-loop-shared l = l.self ≡ set.union l.initial.self (set.from_list (take l.shared-index l.uids))
