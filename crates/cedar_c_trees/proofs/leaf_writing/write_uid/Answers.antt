use Rattle.std.proofs.Common.{rules, string_bytes}
use Rattle.std.proofs.lemmas.Result.{on_ok_weaker}
use Rattle.cedar_c_trees.proofs.Drafting.{uid_added}
use Rattle.cedar_c_trees.proofs.leaf_writing.write_uid.Goals as goal

pub returns : goal.returns
returns c =
    on_ok_weaker c.push_text.result
    (uid_added c.args.uid.now (string_bytes c.in_ok-text.text) c.args.draft.now c.push_text.new.self
    c.entity_type-type.ensures.valid (search rules))
    (rw c.as_str.ensures.value at c.push_text.ensures)
