use Rattle.std.proofs.Common.{◌≡◌, ◌+◌, [], refl, sym, ◌∙◌, subst, vec_len, eqb-true, rules, arith}
use Rattle.cedar_repl.specs.laws.Hearing.{IsAnswered}
use Rattle.cedar_repl.proofs.Hearing.{last_closes, none_comes, none_there}
use Rattle.cedar_repl.proofs.conversation.Conversation.close.Goals as goal

pub returns-then-is_empty : goal.returns-then-is_empty
returns-then-is_empty g c xs out h =
    let part = c.args.self.now.part in
    let none : vec_len part ≡ 0 = eqb-true (vec_len part) 0 (sym c.is_empty.ensures ∙ c.if-is_empty.true) in
    none_comes c.args.self.now xs out c.new-out.result.items
    (none_there part.items (omega (arith, none, part.ok.0))) c.new-out.ensures.items h

pub returns : goal.returns
returns g c =
    let old = c.args.self.now in
    last_closes c.in_ok-on.on old c.answer.new.session (old.ended + 1) c.answer.new.out.items
    (λ s h.
    subst (λ l. IsAnswered c.in_ok-on.on old.manner
    (old.ended + 1) s l c.answer.new.session [] c.answer.new.out.items) c.deref.ensures.value
    (subst
    (λ b. IsAnswered c.in_ok-on.on old.manner
    (old.ended + 1) s c.deref.result.now c.answer.new.session b c.answer.new.out.items) c.new-out.ensures.items
    (c.in_ok-on.ensures s h)))
    refl (search rules)
