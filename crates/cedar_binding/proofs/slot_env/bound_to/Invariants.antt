use Rattle.std.proofs.Common.{◌≡◌}
use Rattle.std.specs.Map.{lookup}
use Rattle.cedar_terms.specs.SlotTree.{same_slot}
use Rattle.cedar_binding.proofs.slot_env.bound_to.Given as goal

abbrev pub invariant-loop-slot : goal.invariant-loop-slot
invariant-loop-slot l = lookup (same_slot l.id) l.slot-iterator ≡ lookup (same_slot l.id) l.values.entries
