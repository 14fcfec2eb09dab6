use Rattle.cedar_alloc_failure_entities_tests.proofs.Copies.{copies_are_equal}
use Rattle.cedar_alloc_failure_entities_tests.proofs.tests.closing.closed_dag.Goals as goal

pub close_dag-answer-requires-clause-copies : goal.close_dag-answer-requires-clause-copies
close_dag-answer-requires-clause-copies c = copies_are_equal
