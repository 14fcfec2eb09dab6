use Rattle.std.proofs.Common.{◌+◌, ◌++◌, refl, subst}
use Rattle.cedar_repl.specs.laws.Hearing.{IsAnswered}
use Rattle.cedar_repl.specs.declared.conversation.Conversation.{Conversation}
use Rattle.cedar_repl.proofs.Hearing.{byte_comes, feed_comes}
use Rattle.cedar_repl.proofs.conversation.Conversation.hear.Goals as goal

pub returns-then-byte-ne10-clause-hears : goal.returns-then-byte-ne10-clause-hears
returns-then-byte-ne10-clause-hears g c =
    let old = c.args.self.now in
    let new : Conversation g.row.S.Denot g.row.S-Hasher.Denot =
    record { session = old.session; manner = old.manner; part = c.push.new.self; ended = old.ended } in (
      refl,
      λ xs out h. byte_comes old new c.args.byte xs
          (out ++ c.args.out.now.items) c.if-byte-ne10.true refl refl refl c.in_ok-push.ensures.items h,
    )

pub returns-clause-hears : goal.returns-clause-hears
returns-clause-hears g c =
    let old = c.args.self.now in
    let new : Conversation g.row.S.Denot g.row.S-Hasher.Denot =
    record {
      session = c.answer.new.session;
      manner = old.manner;
      part = c.clear.new.self;
      ended = old.ended + 1;
    } in
    feed_comes c.in_ok-on.on old new c.args.byte c.args.out.now.items c.answer.new.out.items c.if-byte-ne10.false
    (λ s h.
    subst (λ l. IsAnswered c.in_ok-on.on old.manner
    (old.ended + 1) s l c.answer.new.session c.args.out.now.items c.answer.new.out.items) c.deref.ensures.value
    (c.in_ok-on.ensures s h))
    refl refl c.clear.ensures.items
