-- The facts that an edit reads before anything changes.
use Rattle.std.specs.Prelude.{◌≡◌, Bool, List}
use Rattle.std.specs.HashSet.{contains}
use Rattle.std.specs.FinMap as finmap
use Rattle.std.specs.Set.{is_member}
use Rattle.cedar_ids.specs.UidOf.{same_uid}
use Rattle.cedar_ids.specs.declared.entity.EntityUID.{EntityUID}
use Rattle.cedar_entity_maps.specs.Modes.{ancestry}
use Rattle.cedar_entity_maps.specs.Plain.{EntityMap}
use Rattle.cedar_entity_maps.specs.Affected.{is_affected}
use Rattle.cedar_entities.specs.declared.edits.Reading.{Reading}
use Rattle.cedar_entity_maps.specs.laws.StaleUids.{AreLossesOf, is_stripped, loses}

-- Holds if the reading r is correct for an edit of the uids: its uids, the affected entities, and the entities with
-- stale ancestors. If `recompute_all` is true, all indirect ancestors count as stale, because a repair recomputes them.
pub record IsReadingOf {S H : Type 0} (recompute_all : Bool) (D : EntityMap) (uids : List EntityUID) (r : Reading S H) : Type 0 where
  pub same : (q : EntityUID) → is_member same_uid r.uids.items q ≡ is_member same_uid uids q
  pub affected : (q : EntityUID) → contains same_uid r.affected q ≡ is_affected D r.uids.items q
  pub who : (q : EntityUID) → loses r.stale.items q ≡ is_stripped r.uids.items q (ancestry D q)
  pub lost : AreLossesOf recompute_all (finmap.get D) r.uids.items r.stale.items
