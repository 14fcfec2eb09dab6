use Rattle.cedar_c_trees.proofs.ReadOrdered.{read_named}
use Rattle.cedar_c_trees.proofs.write_laws.read_expr_has_names.Goals as goal

pub returns : goal.returns
returns c = read_named
