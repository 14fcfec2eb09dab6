use Rattle.cedar_c_trees.specs.Items.{Combines}
use Rattle.cedar_c_trees.specs.Shapes.{IsAllowedInValue}
use Rattle.cedar_c_trees.specs.laws.Stacks.{is_text_value}
use Rattle.cedar_c_trees.proofs.Refusing.{Reading}
use Rattle.cedar_c_trees.proofs.reading.value_of.Given as goal

abbrev pub invariant-loop-node : goal.invariant-loop-node
invariant-loop-node l = Reading Combines is_text_value IsAllowedInValue l.text l.nodes l.node-index l.stack.items
