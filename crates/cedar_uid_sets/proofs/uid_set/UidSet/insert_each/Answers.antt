use Rattle.cedar_uid_sets.proofs.Filtered.{union_list_none, union_more}
use Rattle.cedar_uid_sets.proofs.uid_set.UidSet.insert_each.Goals as goal

pub loop-shared-init : goal.loop-shared-init
loop-shared-init c = union_list_none c.args.self.now

pub loop-shared-preserved : goal.loop-shared-preserved
loop-shared-preserved c =
    rw (c.in_ok-insert.ensures.ok, c.in_ok-clone.ensures.cases, c.shared-item.is, c.loop-shared.invariant)
    (union_more c.args.self.now c.args.uids.now c.loop-shared.shared-index _ c.loop-shared-test.true)
