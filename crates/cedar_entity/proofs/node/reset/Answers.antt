use Rattle.std.proofs.Common.{ap, ◌∙◌}
use Rattle.cedar_entity.specs.View.{EntityView, has_ancestor}
use Rattle.cedar_entity.proofs.AncestorSets.{ancestors_reset}
use Rattle.cedar_entity.proofs.node.reset.Goals as goal

pub returns-clause-edges : goal.returns-clause-edges
returns-clause-edges c q = ap (λ (n : EntityView). has_ancestor n q) c.remove_all_indirect_ancestors.ensures
    ∙ ancestors_reset c.args.entity.now q
