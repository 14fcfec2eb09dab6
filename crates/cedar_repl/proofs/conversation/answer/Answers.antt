use Rattle.std.proofs.lemmas.Result.{IfOk-weaker}
use Rattle.cedar_store.specs.Output.{State}
use Rattle.cedar_store.specs.Sessions.{IsInState}
use Rattle.cedar_repl.specs.laws.Hearing.{IsRefused, IsAnswered}
use Rattle.cedar_repl.proofs.Hearing.{taken_answers, refused_answers}
use Rattle.cedar_repl.proofs.conversation.answer.Goals as goal

pub returns-then-branch : goal.returns-then-branch
returns-then-branch g c s h =
    let known = rw c.if-branch.true at c.in_ok-apply_line.ensures.takes in
    taken_answers c.args.manner c.args.number s c.args.line.now c.apply_line.new.self c.args.out.now.items
    c.apply_line.new.out.items (known s h)

pub returns : goal.returns
returns g c =
    let known = rw c.if-branch.false at c.in_ok-apply_line.ensures.takes in
    IfOk-weaker c.refuse.result
    (λ on. IsRefused on c.args.manner c.args.number c.args.line.now c.apply_line.new.out.items
    c.refuse.new.out.items)
    (λ on. (s : State) → IsInState c.args.session.now s
    → IsAnswered on c.args.manner c.args.number s c.args.line.now c.apply_line.new.self c.args.out.now.items
    c.refuse.new.out.items)
    (λ on r s h. refused_answers on c.args.manner c.args.number s c.args.line.now c.apply_line.new.self
    c.args.out.now.items c.apply_line.new.out.items c.refuse.new.out.items (known s h) r)
    c.refuse.ensures
