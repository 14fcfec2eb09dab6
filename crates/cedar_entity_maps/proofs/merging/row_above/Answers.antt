use Rattle.std.proofs.Common.{◌≡◌, ◌∙◌, None, Some, ap, sym}
use Rattle.std.proofs.lemmas.Result.{IfOk-weaker}
use Rattle.std.specs.HashMap.{get}
use Rattle.std.specs.Set.{is_member}
use Rattle.std.specs.Option.{option_copied, option_map}
use Rattle.cedar_ids.specs.UidOf.{same_uid}
use Rattle.cedar_entity_maps.specs.laws.EntityMap.{entity_at, shared}
use Rattle.cedar_entity_maps.proofs.MergedRows.{row_for, row_for_none, some_weaker}
use Rattle.cedar_entity_maps.proofs.merging.row_above.Goals as goal

pub returns-in-Some : goal.returns-in-Some
returns-in-Some g c =
    let m = c.args.entities.now in
    let A = is_member same_uid c.args.affected.now in
    let key = c.args.uid.now in
    let found : get same_uid m key ≡ Some c.in-Some.node.now = sym c.get.ensures.value ∙ ap option_copied c.in-Some.is in
    let is : entity_at m key ≡ Some c.deref.result.now = ap (option_map shared) found ∙ ap Some (sym c.deref.ensures) in
    IfOk-weaker c.row_apart.result _ _
    (λ o h. some_weaker _ _ o (λ row r. row_for m A key row c.deref.result.now is r) h)
    c.row_apart.ensures

pub returns-in-None : goal.returns-in-None
returns-in-None g c =
    let m = c.args.entities.now in
    let found : get same_uid m c.args.uid.now ≡ None = sym c.get.ensures.value ∙ ap option_copied c.in-None.is in
    row_for_none m (is_member same_uid c.args.affected.now) c.args.uid.now c.new.result (ap (option_map shared) found)
    c.new.ensures
