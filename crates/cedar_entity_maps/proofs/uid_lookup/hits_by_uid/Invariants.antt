use Rattle.std.proofs.Common.{◌≡◌, ◌&&◌, take}
use Rattle.std.specs.Set.{is_member}
use Rattle.cedar_ids.specs.UidOf.{same_uid}
use Rattle.cedar_ids.specs.declared.entity.EntityUID.{EntityUID}
use Rattle.cedar_entity.specs.View.{has_ancestor}
use Rattle.cedar_entity_maps.proofs.uid_lookup.hits_by_uid.Given as goal

abbrev pub invariant-loop-uid : goal.invariant-loop-uid
invariant-loop-uid l = (q : EntityUID) → is_member same_uid l.hits.items q
    ≡ (is_member same_uid (take l.uid-index l.uids) q && has_ancestor l.entity q)
