use Rattle.std.specs.Prelude.{◌≡◌}
use Rattle.std.specs.Option.{option_or}
use Rattle.cedar_ids.specs.declared.entity.EntityUID.{EntityUID}
use Rattle.cedar_entity_maps.specs.laws.Edits.{last_entity}
use Rattle.cedar_entity_maps.specs.laws.EntityMap.{entity_at, UidsMatch}
use Rattle.cedar_entities.proofs.edits.overwrite_all.Given as goal

abbrev pub invariant-loop-entity : goal.invariant-loop-entity
invariant-loop-entity g l = record {
  keys : UidsMatch l.entities;
  holds : (q : EntityUID) → entity_at l.entities q ≡ option_or (last_entity l.yielded q) (entity_at l.initial.entities q);
}
