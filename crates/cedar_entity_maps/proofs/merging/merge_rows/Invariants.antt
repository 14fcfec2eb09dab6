use Rattle.std.specs.HashSet.{contains}
use Rattle.cedar_ids.specs.UidOf.{same_uid}
use Rattle.cedar_entity_maps.specs.laws.EntityMap.{held_map, UidsMatch}
use Rattle.cedar_entity_maps.specs.laws.Merging.{IsMerged, is_left}
use Rattle.cedar_entity_maps.proofs.merging.merge_rows.Given as goal

-- The entities that were merged need no repair.
abbrev pub invariant-loop-uid : goal.invariant-loop-uid
invariant-loop-uid g l = record {
  keys : UidsMatch l.entities;
  merged : IsMerged (contains same_uid l.affected) (is_left (contains same_uid l.affected) l.merged.items)
      (held_map l.initial.entities) (held_map l.entities);
}
