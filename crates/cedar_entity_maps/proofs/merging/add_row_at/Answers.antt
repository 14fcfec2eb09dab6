use Rattle.cedar_ids.specs.UidOf.{same_uid}
use Rattle.cedar_entity_maps.specs.laws.EntityMap.{entity_at}
use Rattle.cedar_entity_maps.proofs.MergedRows.{same_none}
use Rattle.cedar_entity_maps.proofs.merging.add_row_at.Goals as goal

pub returns-then-is_empty-clause-ok : goal.returns-then-is_empty-clause-ok
returns-then-is_empty-clause-ok g c q =
    same_none c.args.row (same_uid c.args.uid.now q) (entity_at c.args.entities.now q)
    (c.is_empty.ensures.0 c.if-is_empty.true)
