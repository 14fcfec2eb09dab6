use Rattle.std.proofs.Common.{refl}
use Rattle.cedar_c_sets.specs.Reads.{policy_at}
use Rattle.cedar_c_sets.proofs.Reading.{found}
use Rattle.cedar_c_sets.proofs.set_state.SetState.unknown_entities.Goals as goal

pub returns : goal.returns
returns g c = (
  c.in_ok-id.ensures.0,
  (
    c.in-Some.policy.now,
    found policy_at c.args.self.now.set c.in_ok-id.id c.args.id.now c.in-Some.policy.now c.in_ok-id.ensures.1
        c.in-Some.ensures,
    (refl, refl, refl, c.in_ok-answer-in-Some.ensures),
  ),
)
