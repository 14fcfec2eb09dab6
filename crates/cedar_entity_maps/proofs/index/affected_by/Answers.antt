use Rattle.std.proofs.Common.{◌∙◌}
use Rattle.std.proofs.lemmas.Result.{IfOk-weaker}
use Rattle.cedar_entity_maps.proofs.index.affected_by.Goals as goal

pub returns-clause-ok : goal.returns-clause-ok
returns-clause-ok g c D ix same = IfOk-weaker c.walk_all.result _ _ (λ s h q. h q ∙ same q) c.walk_all.ensures.ok
