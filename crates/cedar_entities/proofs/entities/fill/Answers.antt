use Rattle.std.proofs.Common.{◌≡◌, subst}
use Rattle.std.specs.Option.{option_or}
use Rattle.cedar_ids.specs.declared.entity.EntityUID.{EntityUID}
use Rattle.cedar_entities.specs.Present.{AllMatch, FirstMismatch, first_entity}
use Rattle.cedar_entity_maps.specs.EditErrors.{MatchError}
use Rattle.cedar_entity_maps.specs.laws.EntityMap.{entity_at, held_map}
use Rattle.cedar_entity_maps.specs.Affected.{inserted_in, is_affected}
use Rattle.cedar_entities.proofs.Adds.{all_inserted}
use Rattle.cedar_entities.proofs.Changing.{adds_settled, adds_unmatched}
use Rattle.cedar_entities.proofs.entities.fill.Goals as goal

pub returns-in_err-insert_each-clause-adds : goal.returns-in_err-insert_each-clause-adds
returns-in_err-insert_each-clause-adds g c =
    let L = c.args.list.items in
    let e = c.in_err-insert_each.field-0.0 in
    adds_unmatched c.args.entities.now c.args.tc_computation L c.from_residual-in_err-insert_each.result _
    e c.from_residual-in_err-insert_each.ensures.1
    (subst (λ f. MatchError e (FirstMismatch f L) (λ _. ⊥))
    (λ i q. c.make_room.ensures.entities q i) c.in_err-insert_each.ensures.err)

pub returns-clause-adds : goal.returns-clause-adds
returns-clause-adds g c =
    let m = c.args.entities.now in
    let n = c.insert_each.new.entities in
    let L = c.args.list.items in
    let affected = is_affected (held_map m) (inserted_in (held_map m) L) in
    let same : entity_at c.make_room.new.entities ≡ entity_at m = λ i q. c.make_room.ensures.entities q i in
    let put =
    subst (λ f. (q : EntityUID) → entity_at n q ≡ option_or (f q) (first_entity L q)) same c.in_ok-insert_each.ensures.ok in
    let all = all_inserted m n L c.requires.empty put in
    adds_settled m c.args.tc_computation L n (held_map c.finalize_all.new.entities) c.finalize_all.result
    (subst (λ f. AllMatch f L) same c.in_ok-insert_each.ensures.agree) put (c.finalize_all.ensures.ends affected all)
