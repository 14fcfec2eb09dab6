use Rattle.cedar_uid_sets.proofs.Filtered.{difference_none, difference_more}
use Rattle.cedar_uid_sets.proofs.uid_set.UidSet.remove_each.Goals as goal

pub loop-shared-init : goal.loop-shared-init
loop-shared-init c = difference_none c.args.self.now

pub loop-shared-preserved : goal.loop-shared-preserved
loop-shared-preserved c =
    rw (c.remove_shared.ensures, c.shared-item.is, c.loop-shared.invariant)
    (difference_more c.args.self.now c.args.uids.now c.loop-shared.shared-index _ c.loop-shared-test.true)
