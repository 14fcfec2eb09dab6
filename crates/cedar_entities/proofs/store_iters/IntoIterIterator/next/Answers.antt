use Rattle.std.proofs.Common.{ap, sym, ◌∙◌, map, inl, inr}
use Rattle.std.proofs.lemmas.Result.{IfOk-weaker}
use Rattle.cedar_entity_maps.specs.laws.EntityMap.{shared}
use Rattle.cedar_entities.proofs.store_iters.IntoIterIterator.next.Goals as goal

pub returns-clause-steps : goal.returns-clause-steps
returns-clause-steps c = (
  shared c.in_ok-_uid.node,
  sym c.self.view_is ∙ ap (map (λ e. shared e.1)) c.in_ok-_uid.ensures.steps,
  IfOk-weaker c.unwrap_or_clone.result _ _ (λ y h. elim h [ inl e ↦ e | inr e ↦ e ]) c.unwrap_or_clone.ensures.ok,
)
