use Rattle.cedar_c_trees.proofs.SameItem.{all_below_mark}
use Rattle.cedar_c_trees.proofs.write_laws.written_nodes_are_no_marks.Goals as goal

pub returns : goal.returns
returns c = λ is w h. all_below_mark w.bytes w.nodes is h
