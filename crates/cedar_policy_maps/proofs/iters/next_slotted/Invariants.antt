use Rattle.std.proofs.Common.{◌≡◌}
use Rattle.cedar_policy_maps.specs.Lists.{slotted_in}
use Rattle.cedar_policy_maps.proofs.iters.next_slotted.Given as goal

abbrev pub invariant-loop-template : goal.invariant-loop-template
invariant-loop-template l =
    (goal.iterator-loop-template).can_next l.inner × (goal.iterator-loop-template).is_finite l.inner
    × (slotted_in l.initial.inner ≡ slotted_in l.inner)
