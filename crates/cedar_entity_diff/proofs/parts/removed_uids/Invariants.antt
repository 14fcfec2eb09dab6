use Rattle.std.proofs.Common.{◌≡◌, take}
use Rattle.cedar_entity_maps.specs.Affected.{removed_from}
use Rattle.cedar_entity_diff.proofs.parts.removed_uids.Given as goal

abbrev pub invariant-loop-uid : goal.invariant-loop-uid
invariant-loop-uid g l = l.uids.items ≡ removed_from l.store.entities (take l.uid-index l.list)
