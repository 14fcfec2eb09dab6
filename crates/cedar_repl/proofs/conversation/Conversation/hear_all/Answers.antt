use Rattle.std.proofs.Common.{◌+◌, ◌++◌, ◌∷◌, [], get_or, take, drop, take-append-drop, sym, ap, subst, ◌∙◌, arith}
use Rattle.std.proofs.Common.{true, false}
use Rattle.std.proofs.lemmas.List.{take_more, take_all}
use Rattle.cedar_repl.specs.laws.Hearing.{Hears}
use Rattle.cedar_repl.proofs.Hearing.{hears_none, hears_then, ends_then}
use Rattle.cedar_repl.proofs.conversation.Conversation.hear_all.Goals as goal

pub loop-byte-init : goal.loop-byte-init
loop-byte-init g c = (omega arith, rw c.new-out.ensures.items (hears_none c.args.self.now []))

pub loop-byte-preserved : goal.loop-byte-preserved
loop-byte-preserved g c =
    let i = c.loop-byte.byte-index in
    let bytes = c.args.bytes.now in
    let known = rw c.if-not-branch.false at c.in_ok-hear.ensures.hears in (
      omega (arith, c.loop-byte.invariant.0, c.in_ok-hear.ensures.count),
      subst (λ bs. Hears true c.args.self.now bs c.hear.new.self [] c.hear.new.out.items)
          (sym (take_more bytes i 0 c.loop-byte-test.true))
          (hears_then c.args.self.now c.loop-byte.self c.hear.new.self (take i bytes)
          (get_or bytes i 0 ∷ []) [] c.loop-byte.out.items c.hear.new.out.items c.loop-byte.invariant.1 known),
    )

pub returns-then-not-branch-clause-hears : goal.returns-then-not-branch-clause-hears
returns-then-not-branch-clause-hears g c =
    let i = c.loop-byte.byte-index in
    let bytes = c.args.bytes.now in
    let known = rw c.if-not-branch.true at c.in_ok-hear.ensures.hears in
    subst (λ bs. Hears false c.args.self.now bs c.hear.new.self [] c.hear.new.out.items)
    (ap (λ z. z ++ drop (i + 1) bytes) (sym (take_more bytes i 0 c.loop-byte-test.true))
    ∙ take-append-drop (i + 1) bytes)
    (ends_then c.args.self.now c.loop-byte.self c.hear.new.self (take i bytes) (get_or bytes i 0 ∷ [])
    (drop (i + 1) bytes) [] c.loop-byte.out.items c.hear.new.out.items c.loop-byte.invariant.1 known)

pub returns-clause-hears : goal.returns-clause-hears
returns-clause-hears g c =
    subst (λ bs. Hears true c.args.self.now bs c.loop-byte.self [] c.loop-byte.out.items)
    (take_all c.loop-byte.byte-index c.args.bytes.now c.loop-byte-test.false) c.loop-byte.invariant.1
