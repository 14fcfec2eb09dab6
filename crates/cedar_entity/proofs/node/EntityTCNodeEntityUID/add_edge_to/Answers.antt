use Rattle.std.proofs.Common.{ap, ◌∙◌}
use Rattle.std.proofs.lemmas.Result.{on_ok_weaker}
use Rattle.cedar_entity.specs.View.{EntityView, has_ancestor, rest, unchanged_parts}
use Rattle.cedar_entity.proofs.AncestorSets.{ancestors_with, overlap_with, same_after}
use Rattle.cedar_entity.proofs.node.EntityTCNodeEntityUID.add_edge_to.Goals as goal

pub returns-clause-ok : goal.returns-clause-ok
returns-clause-ok c =
    on_ok_weaker c.add_indirect_ancestor.result (λ e q. ap (λ (n : EntityView). has_ancestor n q) e
    ∙ ancestors_with c.args.self.now c.args.k q) c.add_indirect_ancestor.ensures.ok

pub returns-clause-kept : goal.returns-clause-kept
returns-clause-kept c =
    same_after unchanged_parts (λ e k. ap (λ s. (e.uid, (rest e, s))) (overlap_with e k)) c.add_indirect_ancestor.result
    c.args.self.now c.add_indirect_ancestor.new.self c.args.k c.add_indirect_ancestor.ensures.ok
    c.add_indirect_ancestor.ensures.err
