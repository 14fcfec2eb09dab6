use Rattle.std.specs.Option.{option_copied}
use Rattle.cedar_entity_maps.specs.laws.EntityMap.{entity_at, shared}
use Rattle.cedar_entities.proofs.FirstFaults.{IsFirstOf}
use Rattle.cedar_entities.proofs.store_valid.first_faulty.Given as goal

abbrev pub invariant-loop-uid : goal.invariant-loop-uid
invariant-loop-uid g l = IsFirstOf (entity_at l.entities) (λ p. shared p.1.now) l.yielded (option_copied l.least)
