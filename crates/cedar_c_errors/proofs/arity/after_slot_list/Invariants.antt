use Rattle.std.proofs.Common.{◌≡◌, ◌≤◌, length}
use Rattle.cedar_c_errors.specs.laws.Marks.{after_slots}
use Rattle.cedar_c_errors.proofs.arity.after_slot_list.Given as goal

abbrev pub invariant-loop : goal.invariant-loop
invariant-loop l = (l.rest ≡ after_slots l.counter l.text) × (length l.rest ≤ length l.text)
