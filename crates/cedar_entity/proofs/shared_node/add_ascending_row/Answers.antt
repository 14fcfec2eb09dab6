use Rattle.std.proofs.Common.{ap, sym, subst, ◌||◌, ◌∙◌, List}
use Rattle.std.proofs.lemmas.Result.{on_ok_weaker}
use Rattle.std.specs.Set.{is_member}
use Rattle.cedar_ids.specs.UidOf.{same_uid}
use Rattle.cedar_ids.specs.declared.entity.EntityUID.{EntityUID}
use Rattle.cedar_graph.specs.Graph.{Grows}
use Rattle.cedar_entity.specs.View.{EntityView, has_ancestor, rest, unchanged_parts}
use Rattle.cedar_entity.proofs.AncestorSets.{ancestors_with_row, overlap_with_row, grows_by_row, same_after_row}
use Rattle.cedar_uid_sets.specs.UidSets.{Ascend}
use Rattle.cedar_entity.proofs.AscendingUids.{ascends_by_pairs}
use Rattle.cedar_entity.proofs.shared_node.add_ascending_row.Goals as goal

pub returns-clause-ok : goal.returns-clause-ok
returns-clause-ok c =
    on_ok_weaker c.add_ascending_ancestors.result (λ e q.
    ap (λ (n : EntityView). has_ancestor n q) e ∙ ancestors_with_row c.args.entity.now c.taken-keys.result.items q
    ∙ ap (λ (ks : List EntityUID). has_ancestor c.args.entity.now q || is_member same_uid ks q) c.taken-keys.ensures)
    c.add_ascending_ancestors.ensures.ok

pub returns-clause-grows : goal.returns-clause-grows
returns-clause-grows c =
    subst (λ (ks : List EntityUID). Grows (has_ancestor c.args.entity.now) (has_ancestor c.add_ascending_ancestors.new.self)
    (is_member same_uid ks)) c.taken-keys.ensures
    (grows_by_row c.add_ascending_ancestors.result c.args.entity.now c.add_ascending_ancestors.new.self c.taken-keys.result.items
    c.add_ascending_ancestors.ensures.ok c.add_ascending_ancestors.ensures.err)

pub returns-clause-kept : goal.returns-clause-kept
returns-clause-kept c =
    same_after_row unchanged_parts (λ e ks. ap (λ s. (e.uid, (rest e, s))) (overlap_with_row e ks)) c.add_ascending_ancestors.result
    c.args.entity.now c.add_ascending_ancestors.new.self c.taken-keys.result.items c.add_ascending_ancestors.ensures.ok
    c.add_ascending_ancestors.ensures.err

pub add_ascending_ancestors-requires-clause-ascending : goal.add_ascending_ancestors-requires-clause-ascending
add_ascending_ancestors-requires-clause-ascending c =
    subst Ascend (sym c.taken-keys.ensures) (ascends_by_pairs c.args.keys.now.items c.requires.ascending)
