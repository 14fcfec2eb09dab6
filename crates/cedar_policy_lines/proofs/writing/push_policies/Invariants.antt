use Rattle.std.specs.Prelude.{◌≡◌, ◌++◌, map}
use Rattle.std.specs.List.{flat_map}
use Rattle.cedar_policy.specs.Policies.{policy_id}
use Rattle.cedar_policy_merge.specs.Merge.{policy_ids}
use Rattle.cedar_policy_lines.specs.PolicyOutput.{id_field}
use Rattle.cedar_policy_lines.proofs.writing.push_policies.Given as goal

abbrev pub invariant-loop-policy : goal.invariant-loop-policy
invariant-loop-policy g l = l.out.items ++ flat_map id_field (map policy_id l.policy-iterator)
    ≡ l.initial.out.items ++ flat_map id_field (policy_ids l.set)
