use Rattle.std.proofs.Common.{◌≡◌, ◌&&◌, map}
use Rattle.std.specs.List.{AllByRecursion}
use Rattle.std.specs.Set.{is_member}
use Rattle.cedar_ids.specs.UidOf.{same_uid}
use Rattle.cedar_ids.specs.declared.entity.EntityUID.{EntityUID}
use Rattle.cedar_entity_maps.specs.Modes.{is_ancestor_in}
use Rattle.cedar_entity_maps.specs.laws.EntityMap.{entity_at}
use Rattle.cedar_entity_maps.specs.laws.StaleUids.{IsLossOf, is_stripped, loses}
use Rattle.cedar_entity_maps.proofs.affected.collect_stale_of.Given as goal

abbrev pub invariant-loop-key : goal.invariant-loop-key
invariant-loop-key g l = record {
  who : (q : EntityUID) → loses l.stale.items q
      ≡ (is_member same_uid (map (λ x. x.now) l.yielded) q
      && is_stripped l.uids.keys q (is_ancestor_in (entity_at l.entities q)));
  lost : AllByRecursion (IsLossOf (entity_at l.entities) l.uids.keys) l.stale.items;
}
