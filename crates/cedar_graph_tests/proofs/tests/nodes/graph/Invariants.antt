use Rattle.std.proofs.Common.{nat_eq}
use Rattle.cedar_graph.specs.Graph.{KeysMatch}
use Rattle.cedar_graph_tests.proofs.tests.nodes.graph.Given as goal

abbrev pub invariant-loop-word : goal.invariant-loop-word
invariant-loop-word g l = KeysMatch nat_eq (λ n. n.number) l.nodes
