use Rattle.std.proofs.lemmas.Result.{on_ok_weaker}
use Rattle.cedar_c_trees.proofs.Drafting.{text_added}
use Rattle.cedar_c_trees.proofs.leaf_writing.write_text.Goals as goal

pub returns : goal.returns
returns c =
    on_ok_weaker c.push_text.result (text_added c.args.text.now c.args.draft.now c.push_text.new.self) c.push_text.ensures
