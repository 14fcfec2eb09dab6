use Rattle.std.proofs.Common.{◌∙◌, ap, map, refl, sym}
use Rattle.std.proofs.lemmas.Simd.{map-map}
use Rattle.cedar_policy.specs.Policies.{policy_id}
use Rattle.cedar_c_sets.proofs.set_state.SetState.naming.Goals as goal

pub returns : goal.returns
returns g c =
    let policies = c.in_ok-policies.policies.items in (
      c.in_ok-uid.uid,
      c.in_ok-uid.ensures,
      (
        refl,
        refl,
        refl,
        c.in_ok-answer.ensures ∙ ap (map (λ p. policy_id p.now)) c.deref.ensures.value
            ∙ sym (map-map policy_id (λ p. p.now) policies) ∙ ap (map policy_id) c.in_ok-policies.ensures,
      ),
    )
