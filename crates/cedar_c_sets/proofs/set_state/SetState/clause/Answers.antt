use Rattle.std.proofs.Common.{sym}
use Rattle.cedar_body.specs.Bodies.{BodyParts}
use Rattle.cedar_c_sets.proofs.Showing.{shows}
use Rattle.cedar_c_sets.proofs.set_state.SetState.clause.Goals as goal

pub returns : goal.returns
returns g c =
    shows (λ (t : BodyParts). t.clause) c.in_ok-id.id c.args.id.now c.args.self.now c.store_encoded.new.self
    c.in-Some.body.now c.in-Some-non_scope_constraints.clause.now c.in_ok-shown.shown.answer
    c.in_ok-shown.shown.nodes.items c.in_ok-id.ensures.1 c.in_ok-id.ensures.0 c.in-Some.ensures
    (sym c.in-Some-non_scope_constraints.ensures) c.in_ok-shown.ensures c.store_encoded.ensures.set
    c.store_encoded.ensures.refusal c.store_encoded.ensures.answer c.store_encoded.ensures.nodes
