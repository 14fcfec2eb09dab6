use Rattle.std.proofs.Common.{◌≡◌}
use Rattle.std.specs.Cmp.Lexicographic.{pointwise}
use Rattle.cedar_policy.specs.PolicyEquality.{same_policy}
use Rattle.cedar_policy_set.proofs.compare.same_policies.Given as goal

abbrev pub invariant-loop-policy : goal.invariant-loop-policy
invariant-loop-policy l = pointwise same_policy l.policy-iterator l.others ≡ pointwise same_policy l.fn.policies l.initial.others
