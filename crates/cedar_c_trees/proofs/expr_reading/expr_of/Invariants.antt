use Rattle.cedar_c_trees.specs.Items.{BuildsExpr}
use Rattle.cedar_c_trees.specs.Shapes.{IsAllowedInExpr}
use Rattle.cedar_c_trees.specs.laws.Stacks.{is_text_expr}
use Rattle.cedar_c_trees.proofs.Refusing.{Reading}
use Rattle.cedar_c_trees.proofs.expr_reading.expr_of.Given as goal

abbrev pub invariant-loop-node : goal.invariant-loop-node
invariant-loop-node l = Reading BuildsExpr is_text_expr IsAllowedInExpr l.text l.nodes l.node-index l.stack.items
