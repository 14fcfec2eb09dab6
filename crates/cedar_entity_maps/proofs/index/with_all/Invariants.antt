use Rattle.std.proofs.Common.{◌≡◌, ◌&&◌, ◌||◌, take}
use Rattle.std.specs.Set.{is_member}
use Rattle.cedar_ids.specs.UidOf.{same_uid}
use Rattle.cedar_ids.specs.declared.entity.EntityUID.{EntityUID}
use Rattle.cedar_children.specs.Children.{is_child}
use Rattle.cedar_entity_maps.specs.laws.EntityMap.{entity_at}
use Rattle.cedar_entity_maps.specs.laws.Indexes.{is_parent_at}
use Rattle.cedar_entity_maps.proofs.index.with_all.Given as goal

abbrev pub invariant-loop-uid : goal.invariant-loop-uid
invariant-loop-uid g l = (p q : EntityUID)
    → is_child l.all p q
    ≡ (is_child l.initial.all p q
    || (is_member same_uid (take l.uid-index l.uids) q && is_parent_at (entity_at l.entities q) p))
