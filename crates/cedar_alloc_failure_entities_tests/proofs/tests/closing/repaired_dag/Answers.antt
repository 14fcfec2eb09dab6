use Rattle.cedar_alloc_failure_entities_tests.proofs.Copies.{copies_are_equal}
use Rattle.cedar_alloc_failure_entities_tests.proofs.tests.closing.repaired_dag.Goals as goal

pub repair_dag-answer-requires-clause-copies : goal.repair_dag-answer-requires-clause-copies
repair_dag-answer-requires-clause-copies c = copies_are_equal
