use Rattle.cedar_policy_set.specs.Refusals.{set_error_of}
use Rattle.cedar_c_sets.proofs.Refusing.{texts_kept}
use Rattle.cedar_c_sets.proofs.set_state.SetState.insert_template_body.Goals as goal

pub returns-in-Err-clause-texts : goal.returns-in-Err-clause-texts
returns-in-Err-clause-texts g c =
    texts_kept (set_error_of c.in-Err.error) c.by_set.result _ _ _ c.refuse.ensures.answer c.refuse.ensures.nodes
    c.by_set.ensures c.refuse.ensures.told
