use Rattle.cedar_alloc_failure_entities_tests.proofs.Copies.{copies_are_equal}
use Rattle.cedar_alloc_failure_entities_tests.proofs.tests.closing.checked.Goals as goal

pub enforce_tc_and_dag-answer-requires-clause-copies : goal.enforce_tc_and_dag-answer-requires-clause-copies
enforce_tc_and_dag-answer-requires-clause-copies c = copies_are_equal
