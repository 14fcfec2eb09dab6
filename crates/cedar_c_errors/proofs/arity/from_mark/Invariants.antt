use Rattle.std.proofs.Common.{◌≡◌, ◌≤◌, length}
use Rattle.cedar_c_errors.specs.laws.Marks.{from_mark}
use Rattle.cedar_c_errors.proofs.arity.from_mark.Given as goal

abbrev pub invariant-loop-first : goal.invariant-loop-first
invariant-loop-first l = (from_mark l.rest ≡ from_mark l.text) × (length l.rest ≤ length l.text)

abbrev pub decreases-loop-first : goal.decreases-loop-first
decreases-loop-first l = length l.rest
