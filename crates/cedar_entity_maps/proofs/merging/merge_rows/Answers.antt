use Rattle.std.proofs.Common.{◌≡◌, ◌∙◌, ◌∷◌, ◌++◌, [], Bool, List, ap, refl, subst, sym, true}
use Rattle.std.specs.HashSet.{contains}
use Rattle.std.specs.Set.{is_member}
use Rattle.cedar_ids.specs.UidOf.{same_uid}
use Rattle.cedar_ids.specs.declared.entity.EntityUID.{EntityUID}
use Rattle.cedar_entity_maps.specs.laws.EntityMap.{held_map}
use Rattle.cedar_entity_maps.specs.laws.Merging.{IsMerged, IsRest, is_left}
use Rattle.cedar_entity_maps.proofs.MergedRows.{left_within, member_at, merge_begin, merge_same, rest_done, rest_same}
use Rattle.cedar_entity_maps.proofs.merging.merge_rows.Goals as goal
use Rattle.cedar_entity_maps.proofs.merging.merge_rows.Goals.{then-branch+in_ok-clone+in_ok-push, else-branch}

pub loop-uid-init : goal.loop-uid-init
loop-uid-init g c =
    let A = contains same_uid c.args.affected.now in
    let D = held_map c.args.entities.now in
    record {
      keys = c.requires;
      merged = subst (λ (l : List EntityUID). IsMerged A (is_left A l) D D) (sym c.new-merged.ensures.items)
          (merge_begin A (is_left A []) D (λ q. sym (left_within A q)));
    }

pub loop-uid-preserved : goal.loop-uid-preserved
loop-uid-preserved g c =
    let A : EntityUID → Bool = contains same_uid c.args.affected.now in
    let B : EntityUID → Bool = is_member same_uid c.in_ok-sought.sought in
    let alike : B ≡ A = ap (λ (ks : List EntityUID). is_member same_uid ks) c.in_ok-sought.ensures in
    let D = held_map c.args.entities.now in
    let N = held_map c.merge_at.new.entities in
    let old = c.loop-uid.merged.items in
    let k = c.uid-item.result in
    let so_far : IsMerged B (is_left A old) D (held_map c.loop-uid.entities) =
    subst (λ F. IsMerged F (is_left A old) D (held_map c.loop-uid.entities)) (sym alike) c.loop-uid.invariant.merged in
    let here : B k ≡ true = ap (λ (l : List EntityUID). is_member same_uid l k) (sym c.uids-uid-items.ensures)
    ∙ member_at c.uids-uid-items.result.now c.loop-uid.uid-index k c.loop-uid-test.true c.uid-item.is in
    record {
      keys = c.in_ok-merge_at.ensures.keys;
      merged = subst (λ F. IsMerged F (is_left A c.if-branch.merged.items) D N) alike (elim c.if-branch.branch [
        | then-branch+in_ok-clone+in_ok-push w ↦
            subst (λ (l : List EntityUID). IsMerged B (is_left A l) D N)
            (sym (ap (λ v. v.items) w.merged-is ∙ w.in_ok-push.ensures.items
            ∙ ap (λ (x : EntityUID). old ++ x ∷ []) w.in_ok-clone.ensures.cases))
            (c.in_ok-merge_at.ensures.merged (is_left A old) (is_left A (old ++ k ∷ [])) D so_far here
            (subst (λ b. IsRest b k (is_left A old) (is_left A (old ++ k ∷ []))) (sym w.if-branch.true)
            (rest_done A old k)))
        | else-branch w ↦
            subst (λ (l : List EntityUID). IsMerged B (is_left A l) D N) (sym (ap (λ v. v.items) w.merged-is))
            (c.in_ok-merge_at.ensures.merged (is_left A old) (is_left A old) D so_far here
            (subst (λ b. IsRest b k (is_left A old) (is_left A old)) (sym w.if-branch.false)
            (rest_same k (is_left A old))))
      ]);
    }
