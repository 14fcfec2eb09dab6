-- Stores with the same uids.
use Rattle.std.specs.Prelude.{◌≡◌, Bool, List}
use Rattle.std.proofs.Math.Bool.{beq}
use Rattle.std.specs.Cmp.Lexicographic.{pointwise}
use Rattle.std.specs.Ordering.{on, eq_of_both}
use Rattle.std.specs.FinSet as set
use Rattle.std.specs.FinMap as finmap
use Rattle.cedar_ids.specs.UidOf.{same_uid}
use Rattle.cedar_ids.specs.declared.entity.EntityUID.{EntityUID}
use Rattle.cedar_entity_maps.specs.Plain.{StoreView, EntityMap}
use Rattle.cedar_uid_sets.specs.UidSets.{UidValues}

-- The uids of an entity map.
abbrev pub uids_of_map : EntityMap → UidValues
uids_of_map D = set.from_list (finmap.keys D)

-- The uids of the entities of a store, in ascending order.
abbrev pub uids_in : StoreView → List EntityUID
uids_in s = set.items (uids_of_map s.entities)

-- Whether a store is partial.
abbrev pub mode_of : StoreView → Bool
mode_of s = s.partial

-- Whether two stores have the same uids, and both are partial or neither is.
abbrev pub same_uids_and_mode : StoreView → StoreView → Bool
same_uids_and_mode = eq_of_both (on mode_of beq) (on uids_in (pointwise same_uid))

-- Holds if two stores have entities at the same uids, and both are partial or neither is.
pub record HaveSameUids (S T : StoreView) : Type 0 where
  pub mode : S.partial ≡ T.partial
  pub uids : (q : EntityUID) → finmap.contains_key S.entities q ≡ finmap.contains_key T.entities q
