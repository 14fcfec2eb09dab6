use Rattle.std.proofs.Common.{Ok, Err}
use Rattle.cedar_entity_maps.specs.Plain.{entities_in}
use Rattle.cedar_dry_run.specs.laws.Tried.{putting_refused, putting_tried}
use Rattle.cedar_dry_run.proofs.would.would_upsert.Goals as goal

pub returns-in-Ok-clause-plain : goal.returns-in-Ok-clause-plain
returns-in-Ok-clause-plain g c =
    putting_tried c.args.store.now (entities_in c.args.list.now) c.in_ok-part.part c.in_ok-part.ensures.ok
    (entities_in c.in_ok-again.again.items) c.in_ok-again.ensures (Ok c.in-Ok._tried) c.in-Ok.ensures.plain

pub returns-in-Err-clause-refused : goal.returns-in-Err-clause-refused
returns-in-Err-clause-refused g c =
    putting_refused c.args.store.now (entities_in c.args.list.now) c.in_ok-part.part c.in_ok-part.ensures.ok
    (entities_in c.in_ok-again.again.items) c.in_ok-again.ensures c.in-Err.fault c.in-Err.ensures.upserts

pub returns-in-Err-clause-plain : goal.returns-in-Err-clause-plain
returns-in-Err-clause-plain g c =
    putting_tried c.args.store.now (entities_in c.args.list.now) c.in_ok-part.part c.in_ok-part.ensures.ok
    (entities_in c.in_ok-again.again.items) c.in_ok-again.ensures (Err c.in-Err.fault) c.in-Err.ensures.plain
