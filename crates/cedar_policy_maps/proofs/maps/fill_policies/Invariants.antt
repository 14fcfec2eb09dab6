use Rattle.std.proofs.Common.{◌≡◌, ◌++◌}
use Rattle.std.specs.Map.{values_of}
use Rattle.cedar_policy.specs.Policies.{policy_id}
use Rattle.cedar_policy_maps.specs.laws.ListedLaws.{IsKeyed}
use Rattle.cedar_policy_maps.proofs.maps.fill_policies.Given as goal

abbrev pub invariant-loop-policy : goal.invariant-loop-policy
invariant-loop-policy g l = record {
  keyed : IsKeyed policy_id l.links.entries;
  values : values_of l.links.entries ++ l.policy-iterator.rest.items ≡ l.fn.policies.items;
}
