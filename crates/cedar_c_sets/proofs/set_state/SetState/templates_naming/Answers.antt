use Rattle.std.proofs.Common.{◌∙◌, ap, map, refl, sym}
use Rattle.std.proofs.lemmas.Simd.{map-map}
use Rattle.cedar_c_sets.specs.Naming.{body_id}
use Rattle.cedar_c_sets.proofs.set_state.SetState.templates_naming.Goals as goal

pub returns : goal.returns
returns g c =
    let templates = c.in_ok-templates.templates.items in (
      c.in_ok-uid.uid,
      c.in_ok-uid.ensures,
      (
        refl,
        refl,
        refl,
        c.in_ok-answer.ensures ∙ ap (map (λ t. body_id t.now)) c.deref.ensures.value
            ∙ sym (map-map body_id (λ t. t.now) templates) ∙ ap (map body_id) c.in_ok-templates.ensures,
      ),
    )
