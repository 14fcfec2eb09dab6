use Rattle.std.proofs.Common.{◌∙◌, ap, subst, sym}
use Rattle.std.proofs.lemmas.Result.{on_ok_weaker}
use Rattle.std.specs.Set.{is_member}
use Rattle.std.specs.Option.{IfSome}
use Rattle.cedar_ids.specs.UidOf.{same_uid}
use Rattle.cedar_ids.specs.laws.UidOfLaws.{same_uid_decides}
use Rattle.cedar_entity_maps.specs.laws.EntityMap.{held_map}
use Rattle.cedar_entity_maps.specs.laws.Merging.{IsRowAbove}
use Rattle.cedar_entity_maps.proofs.MergedRows.{merge_none, merge_step, row_added}
use Rattle.cedar_entity_maps.proofs.merging.merge_at.Goals as goal

pub returns-in_ok-add_row_at-in-Some-clause-merged : goal.returns-in_ok-add_row_at-in-Some-clause-merged
returns-in_ok-add_row_at-in-Some-clause-merged g c left after D so_far here remaining =
    let m = c.args.entities.now in
    let n = c.add_row_at.new.entities in
    let A = is_member same_uid c.args.affected.now in
    let key = c.args.uid.now in
    let above = subst (λ o. IfSome o (IsRowAbove A (held_map m) key)) c.in-Some.is c.in_ok-row.ensures in
    merge_step A left after D (held_map m) (held_map n) key c.in-Some.row
    (λ q same. ap A (sym ((same_uid_decides key q).0 same)) ∙ here) above
    (row_added m n key c.in-Some.row c.in_ok-add_row_at-in-Some.ensures.ok) remaining so_far
