use Rattle.cedar_c_trees.proofs.Raised.{Raising}
use Rattle.cedar_c_trees.proofs.levels.check_levels.Given as goal

abbrev pub invariant-loop-node : goal.invariant-loop-node
invariant-loop-node l = Raising l.nodes l.node-index l.heights.items
