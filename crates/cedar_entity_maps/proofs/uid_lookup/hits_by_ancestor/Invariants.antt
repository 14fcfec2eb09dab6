use Rattle.std.proofs.Common.{◌≡◌, ◌&&◌, map}
use Rattle.std.specs.Set.{is_member}
use Rattle.cedar_ids.specs.UidOf.{same_uid}
use Rattle.cedar_ids.specs.declared.entity.EntityUID.{EntityUID}
use Rattle.cedar_entity_maps.proofs.uid_lookup.hits_by_ancestor.Given as goal

abbrev pub invariant-loop-uid : goal.invariant-loop-uid
invariant-loop-uid g l = (q : EntityUID)
    → is_member same_uid l.hits.items q
    ≡ (is_member same_uid (map (λ x. x.now) l.yielded) q && is_member same_uid l.uids.keys q)
