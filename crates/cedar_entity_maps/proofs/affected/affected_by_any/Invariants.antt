use Rattle.std.proofs.Common.{◌≡◌, ◌&&◌, map, is_some}
use Rattle.std.specs.List.{list_any}
use Rattle.std.specs.Map.{lookup}
use Rattle.std.specs.Map.Iter.{deref_pair}
use Rattle.std.specs.Set.{is_member}
use Rattle.cedar_ids.specs.UidOf.{same_uid}
use Rattle.cedar_ids.specs.declared.entity.EntityUID.{EntityUID}
use Rattle.cedar_entity_maps.specs.Modes.{is_ancestor_in}
use Rattle.cedar_entity_maps.specs.laws.EntityMap.{entity_at}
use Rattle.cedar_entity_maps.proofs.affected.affected_by_any.Given as goal

abbrev pub invariant-loop-key : goal.invariant-loop-key
invariant-loop-key g l = (q : EntityUID) → is_member same_uid l.copies.items q
    ≡ (is_some (lookup (same_uid q) (map deref_pair l.yielded))
    && list_any (is_ancestor_in (entity_at l.entities q)) l.uids.keys)
