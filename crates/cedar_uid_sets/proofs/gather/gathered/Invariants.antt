use Rattle.std.specs.Vec.Iter.{into_iter_items}
use Rattle.cedar_uid_sets.proofs.Gathering.{Covers}
use Rattle.cedar_uid_sets.proofs.gather.gathered.Given as goal

abbrev pub invariant-loop-shared : goal.invariant-loop-shared
invariant-loop-shared l = Covers l.set (into_iter_items l.shared-iterator) l.fn.uids.items
