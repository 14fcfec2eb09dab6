use Rattle.std.proofs.Common.{ap, sym, ◌∙◌}
use Rattle.cedar_entity.specs.View.{EntityView, has_ancestor}
use Rattle.cedar_entity.proofs.AncestorSets.{none_above}
use Rattle.cedar_entity.proofs.entity.Entity.has_ancestors.Goals as goal

pub returns : goal.returns
returns c = λ h q.
    sym (ap (λ (e : EntityView). has_ancestor e q) c.self.view_is)
    ∙ none_above c.self.inside.parents c.self.inside.indirect_ancestors c.is_empty-2.result
    (c.is_empty.ensures.0 c.if-not-is_empty.false) c.is_empty-2.ensures.0 h q
