use Rattle.std.specs.Prelude.{◌≡◌, map}
use Rattle.cedar_entity_maps.specs.Plain.{entities_in}
use Rattle.cedar_alloc_failure_store_tests.proofs.tests.replays.shared_all.Given as goal

abbrev pub invariant-loop-entity : goal.invariant-loop-entity
invariant-loop-entity l = entities_in l.all.items ≡ l.yielded
