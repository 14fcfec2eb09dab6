use Rattle.std.specs.Prelude.{◌≡◌, ◌&&◌}
use Rattle.std.specs.FinSet as set
use Rattle.std.specs.Option.{option_map}
use Rattle.cedar_ids.specs.declared.entity.EntityUID.{EntityUID}
use Rattle.cedar_entity_maps.specs.laws.Edits.{stripped}
use Rattle.cedar_entity_maps.specs.laws.EntityMap.{entity_at}
use Rattle.cedar_entity_maps.specs.laws.StaleUids.{loses, loses_uid}
use Rattle.cedar_entity_maps.proofs.affected.strip_each.Given as goal

abbrev pub invariant-loop-loss : goal.invariant-loop-loss
invariant-loop-loss g l = (q : EntityUID)
    → entity_at l.entities q
    ≡ option_map (stripped (λ p. loses l.yielded q && set.contains l.removed p) (loses_uid l.yielded q))
    (entity_at l.initial.entities q)
