use Rattle.std.proofs.Common.{◌∙◌, ◌&&◌, not, ◌<◌, ap, arith, length, sym, take}
use Rattle.std.specs.Set.{is_member}
use Rattle.cedar_ids.specs.UidOf.{same_uid}
use Rattle.cedar_ids.specs.declared.entity.EntityUID.{EntityUID}
use Rattle.cedar_children.specs.Children.{is_child}
use Rattle.cedar_entity_maps.specs.laws.EntityMap.{entity_at}
use Rattle.cedar_entity_maps.specs.laws.Indexes.{is_parent_at}
use Rattle.cedar_entity_maps.specs.laws.Lists.{member_more}
use Rattle.cedar_entity_maps.proofs.Indexes.{left_more}
use Rattle.cedar_entity_maps.proofs.index.leave_all.Goals as goal

pub loop-uid-preserved : goal.loop-uid-preserved
loop-uid-preserved g c p q =
    let within : c.loop-uid.uid-index < length c.args.uids.now = omega arith in
    let before = λ (u : EntityUID). is_member same_uid (take c.loop-uid.uid-index c.args.uids.now) u in
    let more =
    λ (u : EntityUID). member_more c.args.uids.now c.loop-uid.uid-index c.uid-item.result u within c.uid-item.is in
    let old = is_child c.args.children.now p q in
    let x = is_parent_at (entity_at c.args.entities.now q) p in
    c.leave_at.ensures p q
    ∙ ap (λ b. b && not (same_uid c.uid-item.result q && x)) (c.loop-uid.invariant p q)
    ∙ left_more old (before q) (same_uid c.uid-item.result q) x
    ∙ ap (λ b. old && not (b && x)) (sym (more q))
