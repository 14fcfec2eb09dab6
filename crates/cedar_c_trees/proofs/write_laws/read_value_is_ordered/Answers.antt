use Rattle.cedar_c_trees.proofs.ReadOrdered.{read_ordered}
use Rattle.cedar_c_trees.proofs.write_laws.read_value_is_ordered.Goals as goal

pub returns : goal.returns
returns c = read_ordered
