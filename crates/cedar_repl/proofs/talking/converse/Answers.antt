use Rattle.std.proofs.Common.{◌≡◌, ◌≤◌, ◌+◌, ◌++◌, [], length, take, length-take-le, subst, refl, sym, ◌∙◌, rules, arith}
use Rattle.std.proofs.lemmas.Result.{err_from_is_err_and}
use Rattle.std.specs.Io.KnownBytes.{Consumes, Appends}
use Rattle.cedar_repl.specs.Order.{IsInOrder, Sends}
use Rattle.cedar_repl.proofs.Ordering.{nothing_called, read_in_turn, more_called, all_sent, fault_before, fault_behind}
use Rattle.cedar_repl.proofs.Ordering.{fault_sending, finishes}
use Rattle.cedar_repl.proofs.Pieces.{nothing_yet, one_more, read_fails, memory_fails, reads_end, line_stops, input_ends}
use Rattle.cedar_repl.specs.declared.talking.TalkError.TheVariants.{Read, Memory}
use Rattle.cedar_repl.proofs.talking.converse.Goals as goal

pub returns-then-count-eq0-clause-told : goal.returns-then-count-eq0-clause-told
returns-then-count-eq0-clause-told g c has =
    let r = g.T.Streams.remaining in let w = g.T.Streams.contents in let i = c.loop-turn.invariant in
    input_ends c.args.conversation.now.manner (r c.args.reader.now) (r c.loop-turn.reader) (r c.read_some.new.reader)
    (w c.args.writer.now) (w c.loop-turn.writer) (w c.finish.new.writer)
    c.loop-turn.conversation c.finish.result i.2 (i.3 has).0
    (subst (λ n. Consumes (r c.loop-turn.reader) (r c.read_some.new.reader) (take n c.read_some.new.buffer))
    c.if-count-eq0.true c.in-Ok.ensures.bytes)
    (c.in-Ok.ensures.end c.if-count-eq0.true) c.finish.ensures.finishes

pub returns-then-not-on-clause-told : goal.returns-then-not-on-clause-told
returns-then-not-on-clause-told g c has =
    let r = g.T.Streams.remaining in let w = g.T.Streams.contents in let i = c.loop-turn.invariant in
    let room : length c.read_some.new.buffer ≡ 4096 = search rules in
    let bound : c.in-Ok.count ≤ length c.read_some.new.buffer = c.in-Ok.ensures.bound in
    let most : length (take c.in-Ok.count c.read_some.new.buffer) ≤ 4096 =
    omega (arith, length-take-le c.in-Ok.count c.read_some.new.buffer bound, bound, room) in
    let hears = rw c.if-not-on.true at c.in-Ok-hear_all.ensures.hears in
    line_stops c.args.conversation.now.manner (r c.args.reader.now) (r c.loop-turn.reader) (r c.read_some.new.reader)
    (w c.args.writer.now) (w c.loop-turn.writer) (w c.send.new.writer)
    c.loop-turn.conversation c.hear_all.new.self
    (take c.in-Ok.count c.read_some.new.buffer) c.in-Ok-hear_all.out.items i.2 (i.3 has).0 c.in-Ok.ensures.bytes hears
    (subst (Appends (w c.loop-turn.writer) (w c.send.new.writer)) c.as_slice.ensures.value c.in_ok-send.ensures.sent) most

pub loop-turn-preserved : goal.loop-turn-preserved
unfolding one_more
loop-turn-preserved g c =
    let r = g.T.Streams.remaining in let w = g.T.Streams.contents in let k = g.T.Streams.calls in let i = c.loop-turn.invariant in
    let hears = rw c.if-not-on.false at c.in-Ok-hear_all.ensures.hears in
    let room : length c.read_some.new.buffer ≡ 4096 = search rules in
    let bound : c.in-Ok.count ≤ length c.read_some.new.buffer = c.in-Ok.ensures.bound in
    let count : c.hear_all.new.self.ended ≤ c.loop-turn.conversation.ended
    + length (take c.in-Ok.count c.read_some.new.buffer) = c.in-Ok-hear_all.ensures.count in (
      room,
      omega (arith, i.1, count, length-take-le c.in-Ok.count c.read_some.new.buffer bound, bound, room),
      hears.0 ∙ i.2,
      λ has.
          let s = (i.3 has).0 in
          let piece = take c.in-Ok.count c.read_some.new.buffer in (
            one_more (r c.args.reader.now) (r c.loop-turn.reader) (r c.read_some.new.reader) (w c.args.writer.now)
                (w c.loop-turn.writer) (w c.send.new.writer) c.loop-turn.conversation c.hear_all.new.self piece
                c.in-Ok-hear_all.out.items s c.in-Ok.ensures.bytes hears
                (subst (Appends (w c.loop-turn.writer) (w c.send.new.writer)) c.as_slice.ensures.value
                c.in_ok-send.ensures.sent),
            more_called c.args.conversation.now.manner (k c.args.streams.now) (k c.loop-turn.streams)
                (k c.read_some.new.streams) (k c.send.new.streams) s.0 s.1 piece c.in-Ok-hear_all.out.items
                (read_in_turn c.args.conversation.now.manner (k c.args.streams.now) (k c.loop-turn.streams)
                (k c.read_some.new.streams) (r c.args.reader.now) (r c.loop-turn.reader) (w c.args.writer.now)
                (w c.loop-turn.writer) c.loop-turn.conversation piece i.2 s (i.3 has).1
                (omega (arith, length-take-le c.in-Ok.count c.read_some.new.buffer bound, bound, room))
                c.in-Ok.ensures.call)
                (subst (Sends (k c.read_some.new.streams) (k c.send.new.streams)) c.as_slice.ensures.value
                c.in_ok-send.ensures.calls),
          ),
    )

pub returns-clause-told : goal.returns-clause-told
returns-clause-told g c has =
    let r = g.T.Streams.remaining in let w = g.T.Streams.contents in let i = c.loop-turn.invariant in
    reads_end c.args.conversation.now.manner (r c.args.reader.now) (r c.loop-turn.reader) (w c.args.writer.now)
    (w c.loop-turn.writer) c.loop-turn.conversation i.2 (i.3 has).0

pub returns-in-Err-clause-told : goal.returns-in-Err-clause-told
returns-in-Err-clause-told g c has =
    let r = g.T.Streams.remaining in let w = g.T.Streams.contents in let i = c.loop-turn.invariant in
    read_fails c.args.conversation.now.manner c.in-Err.error (r c.args.reader.now) (r c.loop-turn.reader)
    (r c.read_some.new.reader) (w c.args.writer.now) (w c.loop-turn.writer) c.loop-turn.conversation
    c.in-Err.ensures.err i.2 (i.3 has).0 c.in-Err.ensures.keeps

pub returns-in-Err-hear_all-clause-told : goal.returns-in-Err-hear_all-clause-told
returns-in-Err-hear_all-clause-told g c has =
    let r = g.T.Streams.remaining in let w = g.T.Streams.contents in let i = c.loop-turn.invariant in
    let room : length c.read_some.new.buffer ≡ 4096 = search rules in
    let bound : c.in-Ok.count ≤ length c.read_some.new.buffer = c.in-Ok.ensures.bound in
    let most : length (take c.in-Ok.count c.read_some.new.buffer) ≤ 4096 =
    omega (arith, length-take-le c.in-Ok.count c.read_some.new.buffer bound, bound, room) in
    memory_fails c.args.conversation.now.manner Memory (r c.args.reader.now) (r c.loop-turn.reader)
    (r c.read_some.new.reader) (w c.args.writer.now) (w c.loop-turn.writer) c.loop-turn.conversation
    (take c.in-Ok.count c.read_some.new.buffer) refl i.2 (i.3 has).0 c.in-Ok.ensures.bytes most

pub loop-turn-init : goal.loop-turn-init
unfolding nothing_yet
loop-turn-init g c = (
  search rules,
  omega (arith, c.requires),
  refl,
  λ has. (
    nothing_yet (g.T.Streams.remaining c.args.reader.now) (g.T.Streams.contents c.args.writer.now)
        c.args.conversation.now has,
    nothing_called c.args.conversation.now.manner (g.T.Streams.calls c.args.streams.now),
  ),
)

pub returns-clause-order : goal.returns-clause-order
returns-clause-order g c has =
    let r = g.T.Streams.remaining in let w = g.T.Streams.contents in let k = g.T.Streams.calls in
    let i = c.loop-turn.invariant in
    fault_before c.args.conversation.now.manner Read (k c.args.streams.now) (k c.loop-turn.streams) (i.3 has).0.0 (i.3 has).0.1 (i.3 has).1

pub returns-in-Err-clause-order : goal.returns-in-Err-clause-order
returns-in-Err-clause-order g c has =
    let r = g.T.Streams.remaining in let w = g.T.Streams.contents in let k = g.T.Streams.calls in
    let i = c.loop-turn.invariant in
    fault_behind c.args.conversation.now.manner c.in-Err.error (k c.args.streams.now) (k c.loop-turn.streams) (k c.read_some.new.streams) (i.3 has).0.0 (i.3 has).0.1 []
    (read_in_turn c.args.conversation.now.manner (k c.args.streams.now) (k c.loop-turn.streams)
    (k c.read_some.new.streams) (r c.args.reader.now) (r c.loop-turn.reader) (w c.args.writer.now)
    (w c.loop-turn.writer) c.loop-turn.conversation [] i.2 (i.3 has).0 (i.3 has).1
    (omega arith) c.in-Err.ensures.failed)

pub returns-in-Err-hear_all-clause-order : goal.returns-in-Err-hear_all-clause-order
returns-in-Err-hear_all-clause-order g c has =
    let r = g.T.Streams.remaining in let w = g.T.Streams.contents in let k = g.T.Streams.calls in
    let i = c.loop-turn.invariant in
    let room : length c.read_some.new.buffer ≡ 4096 = search rules in
    let bound : c.in-Ok.count ≤ length c.read_some.new.buffer = c.in-Ok.ensures.bound in
    let piece = take c.in-Ok.count c.read_some.new.buffer in
    let most : length piece ≤ 4096 =
    omega (arith, length-take-le c.in-Ok.count c.read_some.new.buffer bound, bound, room) in
    fault_behind c.args.conversation.now.manner Memory (k c.args.streams.now) (k c.loop-turn.streams) (k c.read_some.new.streams) (i.3 has).0.0 (i.3 has).0.1 piece
    (read_in_turn c.args.conversation.now.manner (k c.args.streams.now) (k c.loop-turn.streams)
    (k c.read_some.new.streams) (r c.args.reader.now) (r c.loop-turn.reader) (w c.args.writer.now)
    (w c.loop-turn.writer) c.loop-turn.conversation piece i.2 (i.3 has).0 (i.3 has).1
    most c.in-Ok.ensures.call)

pub returns-in_err-send-clause-order : goal.returns-in_err-send-clause-order
returns-in_err-send-clause-order g c has =
    let r = g.T.Streams.remaining in let w = g.T.Streams.contents in let k = g.T.Streams.calls in
    let i = c.loop-turn.invariant in
    let room : length c.read_some.new.buffer ≡ 4096 = search rules in
    let bound : c.in-Ok.count ≤ length c.read_some.new.buffer = c.in-Ok.ensures.bound in
    let piece = take c.in-Ok.count c.read_some.new.buffer in
    let most : length piece ≤ 4096 =
    omega (arith, length-take-le c.in-Ok.count c.read_some.new.buffer bound, bound, room) in
    let p = err_from_is_err_and c.from_residual.result c.from_residual.ensures.1 in
    subst (λ e. IsInOrder c.args.conversation.now.manner e (k c.args.streams.now) (k c.send.new.streams)) (sym p.1)
    (fault_sending c.args.conversation.now.manner p.0 (k c.args.streams.now) (k c.loop-turn.streams) (k c.read_some.new.streams) (k c.send.new.streams) (i.3 has).0.0 (i.3 has).0.1 piece
    (read_in_turn c.args.conversation.now.manner (k c.args.streams.now) (k c.loop-turn.streams)
    (k c.read_some.new.streams) (r c.args.reader.now) (r c.loop-turn.reader) (w c.args.writer.now)
    (w c.loop-turn.writer) c.loop-turn.conversation piece i.2 (i.3 has).0 (i.3 has).1
    most c.in-Ok.ensures.call)
    c.in_err-send.ensures.failed)

pub returns-then-not-on-clause-order : goal.returns-then-not-on-clause-order
returns-then-not-on-clause-order g c has =
    let r = g.T.Streams.remaining in let w = g.T.Streams.contents in let k = g.T.Streams.calls in
    let i = c.loop-turn.invariant in
    let room : length c.read_some.new.buffer ≡ 4096 = search rules in
    let bound : c.in-Ok.count ≤ length c.read_some.new.buffer = c.in-Ok.ensures.bound in
    let piece = take c.in-Ok.count c.read_some.new.buffer in
    let most : length piece ≤ 4096 =
    omega (arith, length-take-le c.in-Ok.count c.read_some.new.buffer bound, bound, room) in
    all_sent c.args.conversation.now.manner 2 (k c.args.streams.now) (k c.send.new.streams) ((i.3 has).0.0 ++ piece)
    ((i.3 has).0.1 ++ c.in-Ok-hear_all.out.items)
    (more_called c.args.conversation.now.manner (k c.args.streams.now) (k c.loop-turn.streams) (k c.read_some.new.streams) (k c.send.new.streams) (i.3 has).0.0 (i.3 has).0.1 piece
    c.in-Ok-hear_all.out.items
    (read_in_turn c.args.conversation.now.manner (k c.args.streams.now) (k c.loop-turn.streams)
    (k c.read_some.new.streams) (r c.args.reader.now) (r c.loop-turn.reader) (w c.args.writer.now)
    (w c.loop-turn.writer) c.loop-turn.conversation piece i.2 (i.3 has).0 (i.3 has).1
    most c.in-Ok.ensures.call)
    (subst (Sends (k c.read_some.new.streams) (k c.send.new.streams)) c.as_slice.ensures.value
    c.in_ok-send.ensures.calls))

pub returns-then-count-eq0-clause-order : goal.returns-then-count-eq0-clause-order
returns-then-count-eq0-clause-order g c has =
    let r = g.T.Streams.remaining in let w = g.T.Streams.contents in let k = g.T.Streams.calls in
    let i = c.loop-turn.invariant in
    let room : length c.read_some.new.buffer ≡ 4096 = search rules in
    let bound : c.in-Ok.count ≤ length c.read_some.new.buffer = c.in-Ok.ensures.bound in
    let piece = take c.in-Ok.count c.read_some.new.buffer in
    let most : length piece ≤ 4096 =
    omega (arith, length-take-le c.in-Ok.count c.read_some.new.buffer bound, bound, room) in
    finishes c.args.conversation.now.manner c.finish.result (k c.args.streams.now) (k c.loop-turn.streams) (k c.read_some.new.streams) (k c.finish.new.streams) (i.3 has).0.0 (i.3 has).0.1 piece
    (read_in_turn c.args.conversation.now.manner (k c.args.streams.now) (k c.loop-turn.streams)
    (k c.read_some.new.streams) (r c.args.reader.now) (r c.loop-turn.reader) (w c.args.writer.now)
    (w c.loop-turn.writer) c.loop-turn.conversation piece i.2 (i.3 has).0 (i.3 has).1
    most c.in-Ok.ensures.call)
    c.finish.ensures.calls c.finish.ensures.failed
