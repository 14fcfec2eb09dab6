use Rattle.std.specs.Prelude.{◌≡◌, is_some, not}
use Rattle.std.specs.List.{filter}
use Rattle.cedar_entity_maps.specs.laws.EntityMap.{entity_at}
use Rattle.cedar_entities.proofs.lists.absent_uids.Given as goal

abbrev pub invariant-loop-shared : goal.invariant-loop-shared
invariant-loop-shared g l = l.kept.items ≡ filter (λ u. not (is_some (entity_at l.entities u))) l.yielded
