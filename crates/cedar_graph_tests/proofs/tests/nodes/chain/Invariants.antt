use Rattle.std.proofs.Common.{nat_eq}
use Rattle.cedar_graph.specs.Graph.{KeysMatch}
use Rattle.cedar_graph_tests.proofs.tests.nodes.chain.Given as goal

abbrev pub invariant-loop-number : goal.invariant-loop-number
invariant-loop-number l = KeysMatch nat_eq (λ n. n.number) l.nodes
