use Rattle.std.specs.HashSet.{contains}
use Rattle.cedar_ids.specs.UidOf.{same_uid}
use Rattle.cedar_entity_maps.proofs.AffectedLists.{noted_push}
use Rattle.cedar_entity_maps.proofs.affected.insert_all.Goals as goal

pub loop-uid-preserved : goal.loop-uid-preserved
loop-uid-preserved g c q =
    noted_push (contains same_uid c.args.all.now q) (contains same_uid c.loop-uid.all q)
    (contains same_uid c.insert.new.self q) c.loop-uid.yielded c.in-Some.uid q
    (c.loop-uid.invariant q) (c.in_ok-insert.ensures.updates.0 q)
