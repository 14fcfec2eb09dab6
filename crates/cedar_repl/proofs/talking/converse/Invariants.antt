use Rattle.std.proofs.Common.{◌≡◌, ◌*◌, ◌≤◌, [], length}
use Rattle.cedar_repl.specs.laws.Hearing.{Has}
use Rattle.cedar_repl.proofs.Ordering.{StandsBehind}
use Rattle.cedar_repl.proofs.Pieces.{SoFar}
use Rattle.cedar_repl.proofs.talking.converse.Given as goal

abbrev pub invariant-loop-turn : goal.invariant-loop-turn
invariant-loop-turn g l = (length l.buffer ≡ 4096) × (l.conversation.ended ≤ 4096 * l.turn)
    × (l.conversation.manner ≡ l.initial.conversation.manner)
    × (Has l.initial.conversation [] []
    → (s : SoFar (g.T.Streams.remaining l.initial.reader) (g.T.Streams.remaining l.reader)
    (g.T.Streams.contents l.initial.writer) (g.T.Streams.contents l.writer) l.conversation)
    × StandsBehind l.initial.conversation.manner (g.T.Streams.calls l.initial.streams) (g.T.Streams.calls l.streams)
    s.0 s.1)
