use Rattle.std.proofs.Common.{◌∙◌, ap}
use Rattle.cedar_policy_maps.specs.PolicySets.{template_bound, bound_at}
use Rattle.cedar_policy_set.specs.laws.Standing.{no_template_told}
use Rattle.cedar_policy_set.proofs.policy_set.PolicySet.template.Goals as goal

pub returns-in-None : goal.returns-in-None
returns-in-None g c =
    no_template_told (bound_at c.args.self.now c.args.id.now) (c.in-None.ensures
    ∙ ap (λ b. template_bound (bound_at b c.args.id.now)) c.self.view_is)
