use Rattle.std.proofs.Common.{◌≡◌, take}
use Rattle.cedar_entity_maps.specs.Affected.{inserted_in}
use Rattle.cedar_entity_maps.specs.Plain.{entities_in}
use Rattle.cedar_entity_diff.proofs.parts.inserted_uids.Given as goal

abbrev pub invariant-loop-entity : goal.invariant-loop-entity
invariant-loop-entity g l = l.uids.items ≡ inserted_in l.store.entities (entities_in (take l.entity-index l.list))
