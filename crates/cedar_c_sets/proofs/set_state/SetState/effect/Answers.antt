use Rattle.std.proofs.Common.{subst}
use Rattle.cedar_c_sets.specs.Reads.{bound_body}
use Rattle.cedar_c_bodies.specs.Bodies.{IsEffect}
use Rattle.cedar_c_sets.proofs.Reading.{found}
use Rattle.cedar_c_sets.proofs.set_state.SetState.effect.Goals as goal

pub returns : goal.returns
returns g c = (
  c.in_ok-id.ensures.0,
  (
    c.in-Some.body.now,
    found bound_body c.args.self.now.set c.in_ok-id.id c.args.id.now c.in-Some.body.now c.in_ok-id.ensures.1
        c.in-Some.ensures,
    subst (IsEffect c.effect_number.result) c.effect.ensures c.effect_number.ensures,
  ),
)
