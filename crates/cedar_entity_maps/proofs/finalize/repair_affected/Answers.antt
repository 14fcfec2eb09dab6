use Rattle.std.proofs.Common.{◌≡◌, ◌∙◌, [], List, ap, sym}
use Rattle.std.proofs.lemmas.Bool.{eqb-true}
use Rattle.std.proofs.lemmas.List.{nil_from_length}
use Rattle.std.specs.HashSet.{contains}
use Rattle.cedar_ids.specs.UidOf.{same_uid}
use Rattle.cedar_ids.specs.declared.entity.EntityUID.{EntityUID}
use Rattle.cedar_entity_maps.specs.laws.EntityMap.{held_map}
use Rattle.cedar_entity_maps.specs.laws.Merging.{is_left}
use Rattle.cedar_entity_maps.proofs.MergedRows.{ends_merged, left_within, merge_same}
use Rattle.cedar_entity_maps.proofs.finalize.repair_affected.Goals as goal

pub returns-then-is_empty-clause-ends : goal.returns-then-is_empty-clause-ends
returns-then-is_empty-clause-ends g c =
    let A = contains same_uid c.args.affected.now in
    let D = held_map c.args.entities.now in
    let N = held_map c.merge_rows.new.entities in
    let merged = c.in_ok-merged.merged.items in
    let none : merged ≡ [] = nil_from_length merged
    (sym c.in_ok-merged.merged.ok.0 ∙ eqb-true c.in_ok-merged.merged.len 0 (sym c.is_empty.ensures ∙ c.if-is_empty.true)) in
    ends_merged A A D N
    (merge_same A (is_left A merged) A D N (λ q. left_within A q ∙ ap (λ (l : List EntityUID). is_left A l q) (sym none))
    c.in_ok-merged.ensures.ok)
    c.args.enforce_dag (held_map c.close_affected.new.entities) c.close_affected.result c.close_affected.ensures.ends

pub returns-clause-ends : goal.returns-clause-ends
returns-clause-ends g c =
    let A = contains same_uid c.args.affected.now in
    let D = held_map c.args.entities.now in
    let N = held_map c.merge_rows.new.entities in
    let merged = c.in_ok-merged.merged.items in
    ends_merged A (contains same_uid c.in_ok-left.left) D N
    (merge_same A (is_left A merged) (contains same_uid c.in_ok-left.left) D N
    (λ q. c.in_ok-left.ensures.ok q ∙ ap (λ (l : List EntityUID). is_left A l q) c.deref.ensures.value)
    c.in_ok-merged.ensures.ok)
    c.args.enforce_dag (held_map c.close_affected-2.new.entities) c.close_affected-2.result c.close_affected-2.ensures.ends
