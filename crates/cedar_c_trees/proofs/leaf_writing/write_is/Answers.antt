use Rattle.std.proofs.Common.{string_bytes}
use Rattle.std.proofs.lemmas.Result.{on_ok_weaker}
use Rattle.cedar_c_trees.proofs.Drafting.{is_added}
use Rattle.cedar_c_trees.proofs.leaf_writing.write_is.Goals as goal

pub returns : goal.returns
returns c =
    on_ok_weaker c.push_text.result
    (is_added c.args.name.now (string_bytes c.in_ok-text.text) c.args.draft.now c.push_text.new.self
    c.in_ok-text.ensures)
    (rw c.as_str.ensures.value at c.push_text.ensures)
