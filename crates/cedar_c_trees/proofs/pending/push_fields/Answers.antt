use Rattle.std.proofs.Common.{ap, sym, append_assoc, ◌∙◌, ◌++◌, ◌∷◌, [], List}
use Rattle.cedar_c_trees.proofs.Drafting.{Entry, field_pushed}
use Rattle.cedar_c_trees.proofs.pending.push_fields.Goals as goal

pub loop-key-preserved : goal.loop-key-preserved
loop-key-preserved c =
    let done = c.loop-key.invariant.0 in
    let e : Entry = (c.in-Some.key.now, c.in-Some.value.now) in (
      done ++ e ∷ [],
      c.loop-key.invariant.1 ∙ ap (λ (fs : List Entry). done ++ fs) c.in-Some.ensures.steps
          ∙ sym (append_assoc done (e ∷ []) c.next.new.self),
      field_pushed c.args.pending.now.items done c.in-Some.key c.in-Some.value
          c.loop-key.pending.items c.push.new.self.items c.push-in-loop-key.new.self.items c.in_ok-push.ensures.items
          c.in_ok-push-2.ensures.items c.loop-key.invariant.2,
    )
