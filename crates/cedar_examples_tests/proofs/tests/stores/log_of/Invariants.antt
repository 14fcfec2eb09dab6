use Rattle.std.specs.List.{AllByRecursion}
use Rattle.cedar_replay.specs.CallsOf.{EntitiesHaveNoIndirect}
use Rattle.cedar_examples_tests.proofs.tests.stores.log_of.Given as goal

abbrev pub invariant-loop-text : goal.invariant-loop-text
invariant-loop-text l = AllByRecursion EntitiesHaveNoIndirect l.list.items
