use Rattle.cedar_alloc_failure_entities_tests.proofs.Copies.{copies_are_equal}
use Rattle.cedar_alloc_failure_entities_tests.proofs.tests.closing.repaired.Goals as goal

pub repair_tc-answer-requires-clause-copies : goal.repair_tc-answer-requires-clause-copies
repair_tc-answer-requires-clause-copies c = copies_are_equal

pub repair_tc_counted-answer-requires-clause-copies : goal.repair_tc_counted-answer-requires-clause-copies
repair_tc_counted-answer-requires-clause-copies c = copies_are_equal
