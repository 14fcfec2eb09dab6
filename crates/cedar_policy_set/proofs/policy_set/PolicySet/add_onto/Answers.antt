use Rattle.std.specs.Prelude.{◌≡◌, false, refl}
use Rattle.std.proofs.Common.{sym, ap, ◌∙◌, subst}
use Rattle.cedar_policy.specs.Policies.{policy_id}
use Rattle.cedar_policy_maps.specs.PolicySets.{is_bound}
use Rattle.cedar_policy_maps.specs.Insertions.{CanInsert}
use Rattle.cedar_policy_maps.specs.laws.SetLaws.{can_join}
use Rattle.cedar_policy_set.proofs.policy_set.PolicySet.add_onto.Goals as goal

pub insert_policy-requires : goal.insert_policy-requires
insert_policy-requires g c =
    let free : is_bound c.args.self.now (policy_id c.args.policy) ≡ false =
    ap (is_bound c.args.self.now) (sym c.id-2.ensures) ∙ c.in_ok-check_free.ensures.free in
    let can : CanInsert c.args.self.now c.args.policy =
    can_join c.args.policy.link c.args.self.now c.args.policy c.requires.stands.0 refl c.requires.link free
    c.requires.stands.1
    (sym c.requires.stands.2 ∙ c.if-not-same.false)
    (record { exactly = c.env-total.ensures.total; action = c.env-total.ensures.action }) in
    subst (λ b. CanInsert b c.args.policy) (sym c.self.view_is) can
