use Rattle.std.specs.Prelude.{All}
use Rattle.std.proofs.Common.{refl, subst}
use Rattle.cedar_policy_maps.specs.PolicySets.{SetParts}
use Rattle.cedar_policy_set.specs.Validity.{HasSlottedLinks, IsValidBody}
use Rattle.cedar_c_sets.proofs.Faults.{kept_before, told_fault}
use Rattle.cedar_c_sets.proofs.set_state.SetState.validate.Goals as goal

pub returns-in-Ok : goal.returns-in-Ok
returns-in-Ok g c = (
  subst HasSlottedLinks c.in_ok-copy.ensures.cases c.in-Ok.ensures.0,
  subst (λ (b : SetParts). All IsValidBody b.bodies) c.in_ok-copy.ensures.cases c.in-Ok.ensures.1,
  refl,
)

pub returns-in-Err : goal.returns-in-Err
returns-in-Err g c = (
  c.refuse.ensures.set,
  c.refuse.ensures.answer,
  c.refuse.ensures.nodes,
  kept_before c.in-Err.error c.by_fault.result c.refuse.result c.args.self.now.refusal.items
      c.refuse.new.self.refusal.items c.by_fault.ensures c.refuse.ensures.told,
  told_fault c.in-Err.error c.in_ok-copy.copy c.args.self.now.set c.by_fault.result c.refuse.result
      c.args.self.now.refusal.items c.refuse.new.self.refusal.items c.in_ok-copy.ensures.cases c.in-Err.ensures
      c.by_fault.ensures c.refuse.ensures.told,
)
