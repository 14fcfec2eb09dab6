use Rattle.std.specs.Prelude.{◌≡◌, false, refl}
use Rattle.std.proofs.Common.{sym, ap, ◌∙◌, subst}
use Rattle.std.proofs.lemmas.Bool.{false≢true}
use Rattle.cedar_ids.specs.Texts.{same_text}
use Rattle.cedar_body.specs.Bodies.{BodyParts}
use Rattle.cedar_policy.specs.Policies.{policy_id}
use Rattle.cedar_policy_maps.specs.PolicySets.{SetParts, is_bound}
use Rattle.cedar_policy_maps.specs.Insertions.{CanInsertWithBody}
use Rattle.cedar_policy_maps.specs.laws.SetLaws.{none_bound, can_join_both}
use Rattle.cedar_policy_set.proofs.policy_set.PolicySet.add_with_template.Goals as goal
use Rattle.cedar_policy_set.proofs.policy_set.PolicySet.add_with_template.Goals.{then-eq, else-eq}

pub insert_with_body-requires : goal.insert_with_body-requires
insert_with_body-requires g c =
    let theirs : c.id-2.result.now ≡ c.args.policy.template.id = c.id-2.ensures
    ∙ ap (λ (t : BodyParts). t.id) c.template.ensures in
    let can : CanInsertWithBody c.args.self.now c.args.policy = elim c.if-eq.branch [
      | then-eq w ↦ absurd (false≢true (sym c.if-is_taken.false ∙ w.is_taken-is ∙ w.if-eq.true))
      | else-eq w ↦
          let other : same_text (policy_id c.args.policy) c.args.policy.template.id ≡ false =
          (λ i. same_text (sym c.id.ensures i) (sym theirs i)) ∙ sym c.eq.ensures ∙ w.if-eq.false in
          let free : is_bound c.args.self.now (policy_id c.args.policy) ≡ false =
          ap (is_bound c.args.self.now) (sym w.id-else-eq.ensures)
          ∙ ap (λ (b : SetParts). is_bound b w.id-else-eq.result.now) (sym c.self.view_is)
          ∙ sym w.is_bound-is_taken.ensures ∙ sym w.is_taken-is ∙ c.if-is_taken.false in (
            none_bound c.args.self.now c.args.policy.template.id c.requires.missing,
            can_join_both c.args.policy.link c.args.self.now c.args.policy refl c.requires.link free other
                (record { exactly = c.env-total.ensures.total; action = c.env-total.ensures.action }),
          )
    ] in
    subst (λ b. CanInsertWithBody b c.args.policy) (sym c.self.view_is) can
