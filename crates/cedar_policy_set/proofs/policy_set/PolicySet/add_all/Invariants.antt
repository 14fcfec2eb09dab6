use Rattle.std.proofs.Common.{◌≡◌, Ok}
use Rattle.cedar_policy_set.specs.Steps.{add_then}
use Rattle.cedar_policy_set.proofs.policy_set.PolicySet.add_all.Given as goal

abbrev pub invariant-loop-policy : goal.invariant-loop-policy
invariant-loop-policy g l = add_then (Ok l.self) l.policy-iterator.rest.items
    ≡ add_then (Ok l.initial.self) l.fn.policies.items
