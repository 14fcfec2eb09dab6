use Rattle.cedar_entity_maps.specs.laws.EntityMap.{UidsMatch}
use Rattle.cedar_alloc_failure_entities_tests.proofs.tests.steps.map_of.Given as goal

abbrev pub invariant-loop-text : goal.invariant-loop-text
invariant-loop-text l = UidsMatch l.map
