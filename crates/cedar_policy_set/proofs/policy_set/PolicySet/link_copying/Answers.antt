use Rattle.std.specs.Prelude.{◌≡◌, Some}
use Rattle.std.specs.Option.{MatchOption}
use Rattle.std.proofs.Common.{subst}
use Rattle.cedar_policy_maps.specs.PolicySets.{Template, bound_at}
use Rattle.cedar_policy_set.specs.laws.StepLaws.{stands}
use Rattle.cedar_policy_set.specs.laws.Standing.{HasNoTemplate}
use Rattle.cedar_policy_set.proofs.policy_set.PolicySet.link_copying.Goals as goal

pub link_template_copying-requires : goal.link_template_copying-requires
link_template_copying-requires g c =
    stands c.args.self.now c.args.template_id.now c.in-Some.template.value
    (subst
    (λ o. MatchOption o (HasNoTemplate (bound_at c.args.self.now c.args.template_id.now))
    (λ t. bound_at c.args.self.now c.args.template_id.now ≡ Some (Template t.value))) c.in-Some.is
    c.in_ok-template.ensures)
