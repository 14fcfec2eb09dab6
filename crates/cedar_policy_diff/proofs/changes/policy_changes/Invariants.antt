use Rattle.std.proofs.Common.{◌≡◌, ◌++◌, map}
use Rattle.cedar_policy.specs.Policies.{policy_id}
use Rattle.cedar_policy.specs.PolicyEquality.{same_policy}
use Rattle.cedar_policy_diff.specs.Diff.{policy_changes}
use Rattle.cedar_policy_diff.specs.ListDiff.{changes}
use Rattle.cedar_policy_diff.specs.Views.{pair_of}
use Rattle.cedar_policy_diff.proofs.changes.policy_changes.Given as goal

abbrev pub invariant-loop-policy : goal.invariant-loop-policy
invariant-loop-policy g l =
    map pair_of l.changes.items ++ changes policy_id same_policy l.before.policies l.policy-iterator
    ≡ policy_changes l.before l.after
