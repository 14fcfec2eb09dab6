use Rattle.std.proofs.Common.{ap, ◌∙◌, ◌++◌, ◌∷◌, []}
use Rattle.cedar_c_lists.proofs.Laying.{laid_with}
use Rattle.cedar_c_lists.proofs.answer.Answer.with.Goals as goal

pub returns : goal.returns
returns c =
    (laid_with c.self.inside.bytes.items c.extend_from_slice.new.self.items c.args.text.now c.self.inside.spans.items
    c.push.new.self.items _ _ c.self.invariant
    c.end_of-start.ensures c.in_ok-extend_from_slice.ensures.items c.end_of-end.ensures c.in_ok-push.ensures.items).0
    ∙ ap (λ l. l ++ c.args.text.now ∷ []) c.self.view_is

pub invariant_of-result : goal.invariant_of-result
invariant_of-result c =
    (laid_with c.self.inside.bytes.items c.extend_from_slice.new.self.items c.args.text.now c.self.inside.spans.items
    c.push.new.self.items _ _ c.self.invariant
    c.end_of-start.ensures c.in_ok-extend_from_slice.ensures.items c.end_of-end.ensures c.in_ok-push.ensures.items).1
