use Rattle.std.proofs.Common.{◌+◌, ◌≤◌, [], take, true}
use Rattle.cedar_repl.specs.laws.Hearing.{Hears}
use Rattle.cedar_repl.proofs.conversation.Conversation.hear_all.Given as goal

abbrev pub invariant-loop-byte : goal.invariant-loop-byte
invariant-loop-byte g l = (l.self.ended ≤ l.initial.self.ended + l.byte-index)
    × Hears true l.initial.self (take l.byte-index l.bytes) l.self [] l.out.items
