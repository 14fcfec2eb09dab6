use Rattle.cedar_entity_maps.specs.Plain.{entities_in}
use Rattle.cedar_entity_diff.proofs.PartsOfStores.{upsert_part}
use Rattle.cedar_entity_diff.proofs.parts.part_for_upsert.Goals as goal

pub returns-clause-ok : goal.returns-clause-ok
returns-clause-ok g c =
    upsert_part c.args.store.now c.in_ok-uids.uids.items c.in_ok-edited.edited.items (entities_in c.args.list.now)
    c.in_ok-uids.ensures c.in_ok-edited.ensures c.part_at.result c.part_at.ensures.ok
