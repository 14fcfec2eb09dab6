use Rattle.cedar_graph.specs.Graph.{KeysMatch}
use Rattle.cedar_ids.specs.UidOf.{same_uid}
use Rattle.cedar_alloc_failure_entities_tests.proofs.tests.closing.store.Given as goal

abbrev pub invariant-loop-row : goal.invariant-loop-row
invariant-loop-row l = KeysMatch same_uid (λ n. n.0.value.uid) l.nodes
