use Rattle.std.proofs.Common.{◌≡◌, ◌++◌, List}
use Rattle.cedar_policy.specs.Policies.{PolicyParts}
use Rattle.cedar_policy_maps.specs.Views.{bodies_of}
use Rattle.cedar_policy_merge.specs.Merge.{merged_policies, new_id}
use Rattle.cedar_policy_merge.specs.laws.MergeLaws.{AreAll}
use Rattle.cedar_policy_merge.specs.laws.SharedLaws.{IsOnJoined}
use Rattle.cedar_policy_merge.proofs.merge.part_policies.Given as goal

abbrev pub invariant-loop-policy : goal.invariant-loop-policy
invariant-loop-policy g l = record {
  done : List PolicyParts;
  is_part : done ++ l.policy-iterator ≡ l.fn.theirs;
  on : AreAll (IsOnJoined (bodies_of l.joined) (new_id l.renaming.entries)) l.policy-iterator;
  join : l.parted.policies.join.items ≡ l.initial.parted.policies.join.items
      ++ merged_policies l.here (new_id l.renaming.entries) done;
}
