use Rattle.std.specs.Prelude.{◌≡◌, ◌++◌}
use Rattle.std.specs.List.{AllByRecursion}
use Rattle.std.specs.Option.{option_or}
use Rattle.std.specs.Vec.Iter.{into_iter_items}
use Rattle.cedar_ids.specs.declared.entity.EntityUID.{EntityUID}
use Rattle.cedar_entity_maps.specs.laws.EntityMap.{entity_at, UidsMatch}
use Rattle.cedar_entities.specs.Present.{first_entity, MatchesPresent}
use Rattle.cedar_entities.proofs.entities.insert_each.Given as goal

abbrev pub invariant-loop-entity : goal.invariant-loop-entity
invariant-loop-entity g l = record {
  keys : UidsMatch l.entities;
  agree : AllByRecursion (MatchesPresent (entity_at l.initial.entities) l.fn.list.items) l.yielded;
  holds : (q : EntityUID) → entity_at l.entities q ≡ option_or (entity_at l.initial.entities q) (first_entity l.yielded q);
  place : l.fn.list.items ≡ l.yielded ++ into_iter_items l.entity-iterator;
}
