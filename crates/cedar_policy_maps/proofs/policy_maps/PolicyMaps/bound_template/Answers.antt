use Rattle.std.specs.Prelude.{None, Some}
use Rattle.std.specs.List.{find}
use Rattle.std.proofs.Common.{cond, sym, ap, ◌∙◌}
use Rattle.cedar_policy_maps.specs.PolicySets.{is_body_at, is_policy_at}
use Rattle.cedar_policy_maps.specs.laws.SetLaws.{no_template_among}
use Rattle.cedar_policy_maps.proofs.Entries.{template_is}
use Rattle.cedar_policy_maps.proofs.policy_maps.PolicyMaps.bound_template.Goals as goal

pub returns-in-None : goal.returns-in-None
returns-in-None g c =
    let b = c.args.self.now in
    sym (no_template_among (find (is_policy_at c.args.id.now) b.policies) (find (is_body_at c.args.id.now) b.bodies)
    (sym c.in-None.ensures))

pub returns-then-is_template : goal.returns-then-is_template
returns-then-is_template g c =
    let t = c.in-Some.template.now.value in
    ap (λ v. cond v (Some t) None) (sym c.if-is_template.true)
    ∙ template_is c.args.self.now c.args.id.now t c.is_template.result c.is_template.ensures c.in-Some.ensures

pub returns-else-is_template : goal.returns-else-is_template
returns-else-is_template g c =
    let t = c.in-Some.template.now.value in
    ap (λ v. cond v (Some t) None) (sym c.if-is_template.false)
    ∙ template_is c.args.self.now c.args.id.now t c.is_template.result c.is_template.ensures c.in-Some.ensures
