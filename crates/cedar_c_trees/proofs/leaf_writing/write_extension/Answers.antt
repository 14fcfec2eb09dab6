use Rattle.std.proofs.Common.{string_bytes, [], ◌∷◌}
use Rattle.std.proofs.lemmas.Result.{on_ok_weaker}
use Rattle.cedar_c_trees.specs.Items.{call_item, text_item}
use Rattle.cedar_c_trees.proofs.Drafting.{adds_more}
use Rattle.cedar_c_trees.proofs.leaf_writing.write_extension.Goals as goal

pub returns : goal.returns
returns c =
    rw (← c.extension.view_is)
    (on_ok_weaker c.write_text.result
    (adds_more (text_item (string_bytes c.extension.inside.arg) ∷ []) (call_item c.extension.inside.func 1 ∷ [])
    c.args.draft.now c.write_call.new.draft c.write_text.new.draft c.in_ok-write_call.ensures)
    (rw c.as_str.ensures.value at c.write_text.ensures))
