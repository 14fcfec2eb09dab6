use Rattle.std.proofs.Common.{◌≡◌}
use Rattle.cedar_policy_maps.specs.Lists.{statics_in}
use Rattle.cedar_policy_maps.proofs.iters.next_static.Given as goal

abbrev pub invariant-loop-policy : goal.invariant-loop-policy
invariant-loop-policy l =
    (goal.iterator-loop-policy).can_next l.inner × (goal.iterator-loop-policy).is_finite l.inner
    × (statics_in l.initial.inner ≡ statics_in l.inner)
