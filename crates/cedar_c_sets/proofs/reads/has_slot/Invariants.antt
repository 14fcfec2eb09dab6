use Rattle.std.specs.Prelude.{◌≡◌}
use Rattle.cedar_binding.specs.Bindings.{is_listed_id}
use Rattle.cedar_body.specs.Bodies.{body_slots}
use Rattle.cedar_c_sets.proofs.reads.has_slot.Given as goal

abbrev pub invariant-loop-slot : goal.invariant-loop-slot
invariant-loop-slot l = is_listed_id l.slot-iterator l.id ≡ is_listed_id (body_slots l.template) l.id
