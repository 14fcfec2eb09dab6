use Rattle.std.proofs.Common.{refl, ap, sym, subst, ◌∙◌}
use Rattle.std.proofs.lemmas.Result.{err_from_is_err_and}
use Rattle.cedar_body.specs.Bodies.{body_slots}
use Rattle.cedar_binding.specs.Views.{env_of}
use Rattle.cedar_policy_set.specs.Refusals.{Steps, linking_error_of}
use Rattle.cedar_policy_set.specs.laws.Standing.{link_put}
use Rattle.cedar_policy_set.specs.laws.StepLaws.{unfit_is_refused, fit_goes_on}
use Rattle.cedar_policy_set.proofs.policy_set.PolicySet.link_template.Goals as goal

pub returns-in_err-policy : goal.returns-in_err-policy
returns-in_err-policy g c =
    let p = err_from_is_err_and c.from_residual.result c.from_residual.ensures.1 in
    rw (p.1, p.2) (
      refl,
      unfit_is_refused c.in_err-policy.field-0.0 (body_slots c.args.template.value)
          (env_of c.args.values) _ c.in_err-policy.ensures,
    )

pub returns : goal.returns
returns g c =
    subst (λ s. Steps linking_error_of c.insert_link.result c.args.self.now c.insert_link.new.self s)
    (ap (link_put c.args.self.now) c.in_ok-policy.ensures.1
    ∙ sym (fit_goes_on (body_slots c.args.template.value) (env_of c.args.values) _ c.in_ok-policy.ensures.0))
    c.insert_link.ensures
