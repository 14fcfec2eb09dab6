use Rattle.std.proofs.Common.{◌∙◌, ap, subst}
use Rattle.cedar_policy_maps.specs.PolicySets.{IsPolicySet}
use Rattle.cedar_policy_maps.specs.laws.MapLaws.{linked_is, has_ids}
use Rattle.cedar_policy_maps.proofs.policy_maps.PolicyMaps.is_linked.Goals as goal

pub returns : goal.returns
returns g c = c.has_ids.ensures ∙ ap has_ids c.links_of.ensures
    ∙ linked_is c.args.self.now c.args.id.now (subst IsPolicySet c.self.view_is c.self.invariant.policy_set)
