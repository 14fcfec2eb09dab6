use Rattle.std.proofs.Common.{take}
use Rattle.cedar_entity_maps.specs.Plain.{entities_in}
use Rattle.cedar_entity_diff.specs.laws.Parts.{HaveSameParents}
use Rattle.cedar_entity_diff.proofs.parts.keep_parents.Given as goal

abbrev pub invariant-loop-entity : goal.invariant-loop-entity
invariant-loop-entity g l = HaveSameParents l.store.entities (entities_in (take l.entity-index l.list))
