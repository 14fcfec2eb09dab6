use Rattle.cedar_c_trees.proofs.ValueBack.{value_back}
use Rattle.cedar_c_trees.proofs.write_laws.value_is_read_back.Goals as goal

pub returns : goal.returns
returns c = value_back
