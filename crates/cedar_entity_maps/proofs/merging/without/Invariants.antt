use Rattle.std.proofs.Common.{◌≡◌, take}
use Rattle.std.specs.HashSet.{contains}
use Rattle.cedar_ids.specs.UidOf.{same_uid}
use Rattle.cedar_ids.specs.declared.entity.EntityUID.{EntityUID}
use Rattle.cedar_entity_maps.specs.laws.Merging.{is_left}
use Rattle.cedar_entity_maps.proofs.merging.without.Given as goal

abbrev pub invariant-loop-uid : goal.invariant-loop-uid
invariant-loop-uid g l = (q : EntityUID)
    → contains same_uid l.left q ≡ is_left (contains same_uid l.uids) (take l.uid-index l.removed) q
