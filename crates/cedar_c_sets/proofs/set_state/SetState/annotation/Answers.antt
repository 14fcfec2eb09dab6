use Rattle.std.proofs.Common.{◌∙◌, ◌∷◌, [], List, ap, refl, ℕ}
use Rattle.cedar_c_sets.specs.Reads.{bound_body}
use Rattle.cedar_c_sets.proofs.Reading.{found, own_key, told_none, told_one}
use Rattle.cedar_c_sets.proofs.set_state.SetState.annotation.Goals as goal

pub returns-in-None : goal.returns-in-None
returns-in-None g c = (
  c.in_ok-id.ensures.0,
  own_key c.in_ok-key.key c.args.key.now c.in_ok-key.ensures,
  (
    c.in-Some.body.now,
    found bound_body c.args.self.now.set c.in_ok-id.id c.args.id.now c.in-Some.body.now c.in_ok-id.ensures.1
        c.in-Some.ensures,
    (
      refl,
      refl,
      refl,
      told_none c.args.key.now c.in_ok-key.key c.in-Some.body.now.annotations _ c.in_ok-key.ensures.1
          c.in-None.ensures c.new.ensures,
    ),
  ),
)

pub returns : goal.returns
returns g c = (
  c.in_ok-id.ensures.0,
  own_key c.in_ok-key.key c.args.key.now c.in_ok-key.ensures,
  (
    c.in-Some.body.now,
    found bound_body c.args.self.now.set c.in_ok-id.id c.args.id.now c.in-Some.body.now c.in_ok-id.ensures.1
        c.in-Some.ensures,
    (
      refl,
      refl,
      refl,
      told_one c.args.key.now c.in_ok-key.key c.in-Some-annotation.annotation.now c.in-Some.body.now.annotations _
          c.in_ok-key.ensures.1 c.in-Some-annotation.ensures
          (c.in_ok-self-in-Some-annotation.ensures ∙ ap (λ (t : List ℕ). t ∷ []) c.as_ref.ensures),
    ),
  ),
)
