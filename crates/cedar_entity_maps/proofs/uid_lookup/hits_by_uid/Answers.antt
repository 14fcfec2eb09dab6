use Rattle.std.proofs.Common.{◌∙◌, ◌&&◌, ◌||◌, ◌<◌, ap, arith, length, sym, take}
use Rattle.std.specs.Set.{is_member}
use Rattle.cedar_ids.specs.UidOf.{same_uid}
use Rattle.cedar_ids.specs.laws.UidOfLaws.{same_uid_decides}
use Rattle.cedar_entity.specs.View.{has_ancestor}
use Rattle.cedar_entity_maps.specs.laws.Lists.{member_more}
use Rattle.cedar_entity_maps.proofs.AffectedLists.{key_case}
use Rattle.cedar_entity_maps.proofs.uid_lookup.hits_by_uid.Goals as goal

pub loop-uid-preserved : goal.loop-uid-preserved
loop-uid-preserved c q =
    let within : c.loop-uid.uid-index < length c.args.uids.now = omega arith in
    let h = has_ancestor c.args.entity.now in
    let u = c.uid-item.result in
    let before = is_member same_uid (take c.loop-uid.uid-index c.args.uids.now) q in
    c.in_ok-push_if.ensures q
    ∙ ap (λ b. b || (same_uid u q && c.is_descendant_of_shared.result)) (c.loop-uid.invariant q)
    ∙ ap (λ b. (before && h q) || (same_uid u q && b)) c.is_descendant_of_shared.ensures
    ∙ key_case before (h q) (same_uid u q) (h u) (λ t. ap h ((same_uid_decides u q).0 t))
    ∙ ap (λ b. b && h q) (sym (member_more c.args.uids.now c.loop-uid.uid-index u q within c.uid-item.is))
