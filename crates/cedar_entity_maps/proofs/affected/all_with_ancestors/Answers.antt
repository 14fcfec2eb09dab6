use Rattle.std.proofs.Common.{◌∙◌, ◌||◌, ◌<◌, ap, arith, length, sym}
use Rattle.std.specs.HashSet.{contains}
use Rattle.cedar_ids.specs.UidOf.{same_uid}
use Rattle.cedar_ids.specs.declared.entity.EntityUID.{EntityUID}
use Rattle.cedar_entity_maps.specs.laws.EntityMap.{entity_at}
use Rattle.cedar_entity_maps.specs.laws.StaleUids.{takes}
use Rattle.cedar_entity_maps.specs.laws.Lists.{any_more}
use Rattle.cedar_entity_maps.proofs.affected.all_with_ancestors.Goals as goal

pub loop-uid-preserved : goal.loop-uid-preserved
loop-uid-preserved g c w =
    let within : c.loop-uid.uid-index < length c.args.uids.now = omega arith in
    c.in_ok-insert_all.ensures w
    ∙ ap (λ b. contains same_uid c.loop-uid.lost w || b) (c.in_ok-with_ancestors_at.ensures w)
    ∙ ap (λ b. b || takes (entity_at c.args.entities.now) c.uid-item.result w) (c.loop-uid.invariant w)
    ∙ sym (any_more (λ (u : EntityUID). takes (entity_at c.args.entities.now) u w) c.args.uids.now c.loop-uid.uid-index
    c.uid-item.result within c.uid-item.is)
