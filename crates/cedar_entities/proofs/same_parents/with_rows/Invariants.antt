use Rattle.cedar_ids.specs.declared.entity.EntityUID.{EntityUID}
use Rattle.cedar_entity_maps.specs.laws.Edits.{last_entity}
use Rattle.cedar_entity_maps.specs.laws.EntityMap.{held_map}
use Rattle.cedar_entities.specs.laws.SameParents.{BothAt}
use Rattle.cedar_entities.proofs.same_parents.with_rows.Given as goal

abbrev pub invariant-loop-incoming : goal.invariant-loop-incoming
invariant-loop-incoming g l = (q : EntityUID)
    → BothAt (held_map l.entities) q (last_entity l.yielded q) (last_entity l.all.items q)
