use Rattle.std.proofs.Common.{refl, subst, inl, inr}
use Rattle.std.specs.Io.KnownBytes.{Appends}
use Rattle.cedar_repl.proofs.talking.finish.Goals as goal

pub returns-then-on-clause-finishes : goal.returns-then-on-clause-finishes
returns-then-on-clause-finishes g c = (
  c.in-Ok.last.items,
  subst (Appends (g.T.Streams.contents c.args.writer.now) (g.T.Streams.contents c.send.new.writer)) c.as_slice.ensures.value
      c.in_ok-send.ensures.sent,
  inl (refl, rw c.if-on.true at c.in-Ok.ensures),
)

pub returns-clause-finishes : goal.returns-clause-finishes
returns-clause-finishes g c = (
  c.in-Ok.last.items,
  subst (Appends (g.T.Streams.contents c.args.writer.now) (g.T.Streams.contents c.send.new.writer)) c.as_slice.ensures.value
      c.in_ok-send.ensures.sent,
  inr (refl, rw c.if-on.false at c.in-Ok.ensures),
)
