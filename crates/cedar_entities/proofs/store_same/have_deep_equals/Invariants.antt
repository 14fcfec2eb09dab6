use Rattle.std.proofs.Common.{Some}
use Rattle.std.specs.List.{All}
use Rattle.cedar_entities.specs.Answers.{HasDeepEqual}
use Rattle.cedar_entity_maps.specs.laws.EntityMap.{entity_at, shared}
use Rattle.cedar_entities.proofs.store_same.have_deep_equals.Given as goal

abbrev pub invariant-loop-uid : goal.invariant-loop-uid
invariant-loop-uid g l = All (λ p. HasDeepEqual (Some (shared p.1.now)) (entity_at l.other p.0.now)) l.yielded
