use Rattle.cedar_c_trees.proofs.ExprOnly.{expr_back}
use Rattle.cedar_c_trees.proofs.write_laws.expr_is_read_back.Goals as goal

pub returns : goal.returns
returns c = expr_back
