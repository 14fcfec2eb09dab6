use Rattle.std.proofs.Common.{◌∙◌}
use Rattle.cedar_policy_set.specs.Refusals.{removal_error_of}
use Rattle.cedar_policy_set.specs.Steps.{remove_static_step}
use Rattle.cedar_c_sets.proofs.Refusing.{texts_kept, told_taking}
use Rattle.cedar_c_sets.proofs.set_state.SetState.remove_static_by_id.Goals as goal

pub returns-in-Err-clause-makes : goal.returns-in-Err-clause-makes
returns-in-Err-clause-makes g c = (
  c.refuse.ensures.set ∙ c.in-Err.ensures.taken.0,
  told_taking (removal_error_of c.in-Err.error)
      (remove_static_step c.args.self.now.set c.args.id.now) c.args.self.now.set c.args.id.now c.by_removal.result
      c.refuse.result c.args.self.now.refusal.items c.refuse.new.self.refusal.items
      c.in-Err.ensures.taken.1 c.by_removal.ensures c.refuse.ensures.told,
)

pub returns-in-Err-clause-texts : goal.returns-in-Err-clause-texts
returns-in-Err-clause-texts g c =
    texts_kept (removal_error_of c.in-Err.error) c.by_removal.result _ _ _ c.refuse.ensures.answer c.refuse.ensures.nodes
    c.by_removal.ensures c.refuse.ensures.told
