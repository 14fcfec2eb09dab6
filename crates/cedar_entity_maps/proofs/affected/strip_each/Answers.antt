use Rattle.std.specs.FinSet as set
use Rattle.cedar_entity_maps.specs.laws.EntityMap.{entity_at}
use Rattle.cedar_entity_maps.proofs.AffectedLists.{stripped_nothing, loss_push, nothing_stripped}
use Rattle.cedar_entity_maps.proofs.affected.strip_each.Goals as goal

pub loop-loss-init : goal.loop-loss-init
loop-loss-init g c q = nothing_stripped _ stripped_nothing (entity_at c.args.entities.now q)

pub loop-loss-preserved-in_ok-strip_once_at : goal.loop-loss-preserved-in_ok-strip_once_at
loop-loss-preserved-in_ok-strip_once_at g c q =
    loss_push (set.contains c.args.removed.now) c.loop-loss.yielded c.in-Some.loss (entity_at c.args.entities.now q)
    (entity_at c.loop-loss.entities q) (entity_at c.strip_once_at.new.entities q) q
    (c.loop-loss.invariant q) (c.in_ok-strip_once_at.ensures.ok q)

pub loop-loss-preserved : goal.loop-loss-preserved
loop-loss-preserved g c q =
    loss_push (set.contains c.args.removed.now) c.loop-loss.yielded c.in-Some.loss (entity_at c.args.entities.now q)
    (entity_at c.loop-loss.entities q) (entity_at c.strip_once_at.new.entities q) q
    (c.loop-loss.invariant q) (c.in_ok-strip_once_at.ensures.ok q)
