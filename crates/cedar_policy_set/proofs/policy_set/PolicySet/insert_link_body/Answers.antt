use Rattle.std.specs.Prelude.{◌≡◌, Some}
use Rattle.std.specs.Option.{MatchOption}
use Rattle.std.proofs.Common.{subst}
use Rattle.cedar_policy_maps.specs.PolicySets.{Template, bound_at}
use Rattle.cedar_binding.specs.Views.{env_of}
use Rattle.cedar_policy_set.specs.laws.StepLaws.{stands}
use Rattle.cedar_policy_set.specs.laws.LinkLaws.{link_of_there}
use Rattle.cedar_policy_set.specs.laws.Standing.{HasNoTemplate}
use Rattle.cedar_policy_set.proofs.policy_set.PolicySet.insert_link_body.Goals as goal

pub link_template-requires : goal.link_template-requires
link_template-requires g c =
    stands c.args.self.now c.args.template_id c.in-Some.template.value
    (subst
    (λ o. MatchOption o (HasNoTemplate (bound_at c.args.self.now c.args.template_id))
    (λ t. bound_at c.args.self.now c.args.template_id ≡ Some (Template t.value))) c.in-Some.is
    c.in_ok-template.ensures)

pub returns-in-Some-clause-there : goal.returns-in-Some-clause-there
returns-in-Some-clause-there g c =
    link_of_there c.link_template.result c.args.self.now c.link_template.new.self c.args.template_id c.args.new_id
    (env_of c.args.values) c.in-Some.template.value
    (subst
    (λ o. MatchOption o (HasNoTemplate (bound_at c.args.self.now c.args.template_id))
    (λ t. bound_at c.args.self.now c.args.template_id ≡ Some (Template t.value))) c.in-Some.is
    c.in_ok-template.ensures)
    c.link_template.ensures
