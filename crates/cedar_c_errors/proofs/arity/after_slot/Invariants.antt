use Rattle.std.proofs.Common.{◌≡◌, ◌≤◌, length}
use Rattle.cedar_c_errors.specs.laws.Marks.{behind_letters, after_slot}
use Rattle.cedar_c_errors.proofs.arity.after_slot.Given as goal

abbrev pub invariant-loop-first : goal.invariant-loop-first
invariant-loop-first l = (behind_letters l.rest ≡ after_slot l.text) × (length l.rest ≤ length l.text)

abbrev pub decreases-loop-first : goal.decreases-loop-first
decreases-loop-first l = length l.rest
