use Rattle.std.proofs.Common.{◌≡◌, ◌&&◌, map, not}
use Rattle.std.specs.HashSet.{contains}
use Rattle.std.specs.List.{AllByRecursion}
use Rattle.std.specs.Set.{is_member}
use Rattle.cedar_ids.specs.UidOf.{same_uid}
use Rattle.cedar_ids.specs.declared.entity.EntityUID.{EntityUID}
use Rattle.cedar_entity_maps.specs.laws.StaleUids.{IsWhole, loses}
use Rattle.cedar_entity_maps.proofs.affected.collect_all_indirect.Given as goal

abbrev pub invariant-loop-key : goal.invariant-loop-key
invariant-loop-key g l = record {
  who : (q : EntityUID) → loses l.stale.items q
      ≡ (is_member same_uid (map (λ x. x.now) l.yielded) q && not (contains same_uid l.uids q));
  lost : AllByRecursion IsWhole l.stale.items;
}
