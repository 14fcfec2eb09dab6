use Rattle.std.specs.Prelude.{◌≡◌, is_some}
use Rattle.std.specs.List.{filter}
use Rattle.cedar_entity_maps.specs.laws.EntityMap.{entity_at}
use Rattle.cedar_entities.proofs.lists.held_uids.Given as goal

abbrev pub invariant-loop-uid : goal.invariant-loop-uid
invariant-loop-uid g l = l.kept.items ≡ filter (λ u. is_some (entity_at l.entities u)) l.yielded
