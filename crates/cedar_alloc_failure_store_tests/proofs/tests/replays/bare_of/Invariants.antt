use Rattle.cedar_entity_maps.specs.Plain.{HaveNoIndirect}
use Rattle.cedar_alloc_failure_store_tests.proofs.tests.replays.bare_of.Given as goal

abbrev pub invariant-loop-text : goal.invariant-loop-text
invariant-loop-text l = HaveNoIndirect l.list.items
