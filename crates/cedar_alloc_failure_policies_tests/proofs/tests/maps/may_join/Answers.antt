use Rattle.std.specs.Prelude.{◌≡◌, Some, None, true, false, refl}
use Rattle.std.proofs.Common.{sym, ap, ◌∙◌, subst}
use Rattle.std.proofs.lemmas.Bool.{false≢true}
use Rattle.cedar_body.specs.Bodies.{BodyParts}
use Rattle.cedar_body.specs.BodyEquality.{same_body}
use Rattle.cedar_policy.specs.Policies.{policy_id}
use Rattle.cedar_policy_maps.specs.PolicySets.{Template, bound_at, is_bound}
use Rattle.cedar_policy_maps.specs.Founds.{found_binding}
use Rattle.cedar_policy_maps.specs.laws.SetLaws.{can_join}
use Rattle.cedar_alloc_failure_policies_tests.proofs.tests.maps.may_join.Goals as goal

pub returns-in-Some-Template : goal.returns-in-Some-Template
returns-in-Some-Template c v =
    let b = c.args.maps.now in
    let p = c.args.policy.now in
    let u = c.in-Some-Template.template.now.value in
    let i : c.id-2.result.now ≡ p.template.id = c.id-2.ensures ∙ ap (λ (t : BodyParts). t.id) c.template.ensures in
    let f : Some (Template u) ≡ bound_at b c.id-2.result.now =
    subst (λ x. Some (found_binding x) ≡ bound_at b c.id-2.result.now) c.in-Some-Template.field-0-is
    c.in-Some-Template.ensures in
    let there : bound_at b p.template.id ≡ Some (Template u) = ap (bound_at b) (sym i) ∙ sym f in
    let same : same_body u p.template ≡ true =
    (λ j. same_body (sym c.deref.ensures j) (sym c.template-in-Some-Template.ensures j)) ∙ sym c.is_same.ensures
    ∙ v in
    let free : is_bound b (policy_id p) ≡ false = ap (is_bound b) (sym c.id.ensures) ∙ sym c.is_bound.ensures
    ∙ c.if-is_bound.false in
    can_join p.link b p u refl (λ e. false≢true (sym c.if-is_static.false ∙ c.is_static.ensures.value.1 e)) free there
    same
    (record { exactly = c.env-total.ensures.total; action = c.env-total.ensures.action })
