use Rattle.std.proofs.Common.{subst}
use Rattle.cedar_policy_maps.specs.PolicySets.{IsPolicySet}
use Rattle.cedar_policy_maps.proofs.policy_maps.PolicyMaps.is_empty.Goals as goal

pub returns-clause-policy_set : goal.returns-clause-policy_set
returns-clause-policy_set g c = subst IsPolicySet c.self.view_is c.self.invariant.policy_set
