use Rattle.std.proofs.Common.{◌∙◌, ap, cond, sym, None}
use Rattle.std.specs.List.{find}
use Rattle.cedar_policy_maps.specs.PolicySets.{is_body_at}
use Rattle.cedar_policy_maps.specs.laws.TemplateLaws.{template_found}
use Rattle.cedar_policy_diff.proofs.changes.template_at.Goals as goal

pub returns-then-has_policy : goal.returns-then-has_policy
returns-then-has_policy g c =
    let body = find (is_body_at c.args.id.now) c.args.set.now.bodies in
    sym (template_found c.args.id.now c.args.set.now.bodies c.args.set.now.policies
    ∙ ap (λ b. cond b None body) (sym c.has_policy.ensures ∙ c.if-has_policy.true))

pub returns : goal.returns
returns g c =
    let body = find (is_body_at c.args.id.now) c.args.set.now.bodies in
    c.get_template.ensures
    ∙ sym (template_found c.args.id.now c.args.set.now.bodies c.args.set.now.policies
    ∙ ap (λ b. cond b None body) (sym c.has_policy.ensures ∙ c.if-has_policy.false))
