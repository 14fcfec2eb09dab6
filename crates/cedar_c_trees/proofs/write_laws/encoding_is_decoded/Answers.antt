use Rattle.cedar_c_trees.proofs.SameItem.{notes_said}
use Rattle.cedar_c_trees.proofs.write_laws.encoding_is_decoded.Goals as goal

pub returns : goal.returns
returns c = λ is w a h. notes_said w.bytes w.nodes is a h
