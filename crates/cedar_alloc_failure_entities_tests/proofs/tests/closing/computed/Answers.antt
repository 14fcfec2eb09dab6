use Rattle.cedar_alloc_failure_entities_tests.proofs.Copies.{copies_are_equal}
use Rattle.cedar_alloc_failure_entities_tests.proofs.tests.closing.computed.Goals as goal

pub compute_tc-answer-requires-clause-copies : goal.compute_tc-answer-requires-clause-copies
compute_tc-answer-requires-clause-copies c = copies_are_equal

pub compute_tc_counted-answer-requires-clause-copies : goal.compute_tc_counted-answer-requires-clause-copies
compute_tc_counted-answer-requires-clause-copies c = copies_are_equal
