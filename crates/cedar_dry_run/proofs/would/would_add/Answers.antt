use Rattle.std.proofs.Common.{Ok, Err}
use Rattle.cedar_entity_maps.specs.Plain.{entities_in}
use Rattle.cedar_dry_run.specs.laws.Tried.{adding_refused, adding_tried}
use Rattle.cedar_dry_run.proofs.would.would_add.Goals as goal

pub returns-in-Ok-clause-plain : goal.returns-in-Ok-clause-plain
returns-in-Ok-clause-plain g c =
    adding_tried c.args.store.now (entities_in c.args.list.now) c.in_ok-part.part c.in_ok-part.ensures.ok
    (entities_in c.in_ok-copies.copies.items) c.in_ok-copies.ensures (Ok c.in-Ok._tried) c.in-Ok.ensures.plain

pub returns-in-Err-clause-refused : goal.returns-in-Err-clause-refused
returns-in-Err-clause-refused g c =
    adding_refused c.args.store.now (entities_in c.args.list.now) c.in_ok-part.part c.in_ok-part.ensures.ok
    (entities_in c.in_ok-copies.copies.items) c.in_ok-copies.ensures c.in-Err.error c.in-Err.ensures.adds

pub returns-in-Err-clause-plain : goal.returns-in-Err-clause-plain
returns-in-Err-clause-plain g c =
    adding_tried c.args.store.now (entities_in c.args.list.now) c.in_ok-part.part c.in_ok-part.ensures.ok
    (entities_in c.in_ok-copies.copies.items) c.in_ok-copies.ensures (Err c.in-Err.error) c.in-Err.ensures.plain
