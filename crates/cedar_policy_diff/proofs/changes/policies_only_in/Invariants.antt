use Rattle.std.proofs.Common.{◌≡◌, ◌++◌, map}
use Rattle.cedar_policy.specs.Policies.{policy_id}
use Rattle.cedar_policy_diff.specs.ListDiff.{only_in_first}
use Rattle.cedar_policy_diff.proofs.changes.policies_only_in.Given as goal

abbrev pub invariant-loop-policy : goal.invariant-loop-policy
invariant-loop-policy g l =
    map (λ p. p.now) l.only.items ++ only_in_first policy_id l.policy-iterator l.other.policies
    ≡ only_in_first policy_id l.set.policies l.other.policies
