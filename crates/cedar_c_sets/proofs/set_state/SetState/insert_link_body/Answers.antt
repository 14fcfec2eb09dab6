use Rattle.std.proofs.Common.{◌∙◌}
use Rattle.cedar_binding.specs.Views.{env_of}
use Rattle.cedar_policy_set.specs.Refusals.{linking_error_of}
use Rattle.cedar_policy_set.specs.Steps.{link_step}
use Rattle.cedar_c_sets.proofs.Refusing.{texts_kept, told_step}
use Rattle.cedar_c_sets.proofs.set_state.SetState.insert_link_body.Goals as goal

pub returns-in-Err-clause-makes : goal.returns-in-Err-clause-makes
returns-in-Err-clause-makes g c = (
  c.refuse.ensures.set ∙ c.in-Err.ensures.0,
  told_step (linking_error_of c.in-Err.error)
      (link_step c.args.self.now.set c.args.template c.args.id (env_of c.args.values)) c.by_linking.result
      c.refuse.result c.args.self.now.refusal.items c.refuse.new.self.refusal.items
      c.in-Err.ensures.1 c.by_linking.ensures c.refuse.ensures.told,
)

pub returns-in-Err-clause-texts : goal.returns-in-Err-clause-texts
returns-in-Err-clause-texts g c =
    texts_kept (linking_error_of c.in-Err.error) c.by_linking.result _ _ _ c.refuse.ensures.answer c.refuse.ensures.nodes
    c.by_linking.ensures c.refuse.ensures.told
