use Rattle.std.proofs.Common.{subst}
use Rattle.std.proofs.lemmas.Bool.{false≢true}
use Rattle.std.specs.Prelude.{Result, Some}
use Rattle.cedar_body.specs.Bodies.{BodyParts}
use Rattle.cedar_policy_maps.specs.PolicySets.{SetParts}
use Rattle.cedar_policy_set.specs.Steps.{Refusal, add_static_step, not_static}
use Rattle.cedar_c_sets.specs.BodyCalls.{static_step}
use Rattle.cedar_c_sets.specs.Sets.{AppliesStep}
use Rattle.cedar_c_sets.proofs.Refusing.{texts_kept, told_step}
use Rattle.cedar_c_sets.proofs.Slots.{slotless, slotted}
use Rattle.cedar_c_sets.proofs.set_state.SetState.insert_as_static.Goals as goal

pub returns-then-not-is_static-clause-makes : goal.returns-then-not-is_static-clause-makes
returns-then-not-is_static-clause-makes g c = (
  c.refuse.ensures.set,
  told_step (Some (not_static c.args.template.id)) (static_step c.args.self.now.set c.args.template) c.by_slot.result
      c.refuse.result c.args.self.now.refusal.items c.refuse.new.self.refusal.items
      (slotted c.args.self.now.set c.args.template
      (λ e. false≢true ((rw c.if-not-is_static.true at c.is_static.ensures).1 e))) c.by_slot.ensures
      c.refuse.ensures.told,
)

pub returns-then-not-is_static-clause-texts : goal.returns-then-not-is_static-clause-texts
returns-then-not-is_static-clause-texts g c =
    texts_kept (Some (not_static c.args.template.id)) c.by_slot.result _ _ _ c.refuse.ensures.answer c.refuse.ensures.nodes
    c.by_slot.ensures c.refuse.ensures.told

pub returns-clause-makes : goal.returns-clause-makes
returns-clause-makes g c =
    subst (λ (step : Result SetParts Refusal). AppliesStep step c.insert_static_body.result c.args.self.now c.insert_static_body.new.self)
    (slotless c.args.self.now.set c.args.template c.in-Ok.ensures.0)
    (subst (λ (t : BodyParts). AppliesStep (add_static_step c.args.self.now.set t) c.insert_static_body.result c.args.self.now
    c.insert_static_body.new.self) c.in-Ok.ensures.1 c.insert_static_body.ensures.makes)
