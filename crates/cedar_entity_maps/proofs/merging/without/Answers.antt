use Rattle.std.proofs.Common.{◌∙◌, ap}
use Rattle.std.specs.Set.{is_member}
use Rattle.std.specs.HashSet.{contains}
use Rattle.cedar_ids.specs.UidOf.{same_uid}
use Rattle.cedar_entity_maps.proofs.MergedRows.{cloned, left_more, left_within}
use Rattle.cedar_entity_maps.proofs.merging.without.Goals as goal

pub loop-uid-init : goal.loop-uid-init
loop-uid-init g c q =
    ap (λ ks. is_member same_uid ks q) (cloned c.args.uids.now.keys c.in_ok-left.left.keys c.in_ok-left.ensures.cases)
    ∙ left_within (contains same_uid c.args.uids.now) q

pub loop-uid-preserved : goal.loop-uid-preserved
loop-uid-preserved g c q =
    left_more (contains same_uid c.loop-uid.left q) (contains same_uid c.remove.new.self q)
    (contains same_uid c.args.uids.now) c.args.removed.now c.loop-uid.uid-index c.uid-item.result q c.loop-uid-test.true
    c.uid-item.is (c.loop-uid.invariant q) (c.remove.ensures.updates.0 q)
