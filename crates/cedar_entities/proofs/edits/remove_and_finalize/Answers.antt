use Rattle.std.proofs.Common.{ap, refl, subst, sym, ◌∙◌, ◌||◌}
use Rattle.std.proofs.lemmas.Bool.{and_parts}
use Rattle.std.specs.FinSet as set
use Rattle.std.specs.FinMap as finmap
use Rattle.std.specs.Set.{is_member}
use Rattle.cedar_ids.specs.UidOf.{same_uid}
use Rattle.cedar_entity_maps.specs.Edits.{removed_all, uids_of}
use Rattle.cedar_entity_maps.specs.Modes.{with_repair}
use Rattle.cedar_entity_maps.specs.Affected.{is_affected, removed_from}
use Rattle.cedar_entity_maps.specs.laws.Ends.{Ends}
use Rattle.cedar_entity_maps.specs.laws.EntityMap.{held_map}
use Rattle.cedar_entities.proofs.Edited.{gone_leaves, out_made}
use Rattle.cedar_entities.proofs.edits.remove_and_finalize.Goals as goal

pub edit-requires-clause-uids : goal.edit-requires-clause-uids
edit-requires-clause-uids g c q = c.in_ok-uids.ensures q
    ∙ ap (λ l. is_member same_uid (uids_of l) q || set.contains c.in_ok-removed.removed q) (sym c.new-incoming.ensures.items)

pub edit-requires-clause-removed : goal.edit-requires-clause-removed
edit-requires-clause-removed g c q t =
    let m = c.args.entities.now in
    let D = held_map m in
    let U = c.args.list.items in
    (and_parts (is_member same_uid U q) (finmap.contains_key D q)
    (sym (gone_leaves m D U c.in_ok-listed.listed.items c.in_ok-removed.removed refl c.in_ok-listed.ensures
    c.in_ok-removed.ensures q) ∙ t)).1

pub returns-clause-ends : goal.returns-clause-ends
returns-clause-ends g c =
    let m = c.args.entities.now in
    let D = held_map m in
    let U = c.args.list.items in
    subst (λ r. Ends r (is_affected D (removed_from D U)) (removed_all D U) (held_map c.edit.new.entities) c.edit.result)
    (c.with_repair-row.ensures ∙ ap with_repair c.rules_of.ensures)
    (c.edit.ensures.ends (removed_from D U) (removed_all D U) (out_made D U c.in_ok-removed.removed c.new-incoming.result.items
    (gone_leaves m D U c.in_ok-listed.listed.items c.in_ok-removed.removed refl c.in_ok-listed.ensures c.in_ok-removed.ensures)
    c.new-incoming.ensures.items))
