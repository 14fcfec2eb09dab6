use Rattle.std.proofs.Common.{◌≤◌, ◌+◌, length, suc}
use Rattle.std.specs.Option.{option_copied}
use Rattle.cedar_store.specs.Sessions.{IsInState}
use Rattle.cedar_store.specs.Output.{State, IsOutput}
use Rattle.cedar_store.specs.laws.FirstLine.{lines_left}
use Rattle.cedar_store.proofs.EachLine.{Continues, bytes_left}
use Rattle.cedar_store.proofs.program.answer.Given as goal

abbrev pub invariant-loop-left : goal.invariant-loop-left
invariant-loop-left g l = (s : State) × IsInState l.session s
    × Continues (IsOutput l.input) (l.number + 1) s (lines_left (option_copied l.left)) l.out.items
    × (l.number + bytes_left (option_copied l.left) ≤ suc (length l.input))

abbrev pub decreases-loop-left : goal.decreases-loop-left
decreases-loop-left g l = bytes_left (option_copied l.left)
