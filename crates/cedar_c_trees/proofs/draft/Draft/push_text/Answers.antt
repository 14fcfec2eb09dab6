use Rattle.std.proofs.Common.{ap, refl, ◌∙◌, ◌++◌}
use Rattle.cedar_c_trees.proofs.Drafting.{text_put}
use Rattle.cedar_c_trees.proofs.draft.Draft.push_text.Goals as goal

pub returns : goal.returns
returns c =
    text_put c.args.text.now c.self.inside.bytes.items c.extend_from_slice.new.self.items c.self.inside.nodes.items
    c.push.new.self.items c.end_of-start.result c.end_of-end.result _ c.args.self.now c.self.view_is c.utf8.text
    c.end_of-start.ensures
    (c.in_ok-extend_from_slice.ensures.items ∙ ap (λ l. c.self.inside.bytes.items ++ l) c.as_bytes.ensures.value)
    c.end_of-end.ensures c.in_ok-push.ensures.items refl refl
