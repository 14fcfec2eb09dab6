-- The entity map after an edit, before any ancestor is recomputed.
use Rattle.std.specs.Prelude.{Bool, not, ◌&&◌, ◌||◌, List, ◌++◌, map}
use Rattle.std.specs.List.{list_any}
use Rattle.std.specs.Set.{is_member}
use Rattle.std.specs.FinSet as set
use Rattle.std.specs.FinMap as finmap
use Rattle.cedar_ids.specs.UidOf.{same_uid}
use Rattle.cedar_ids.specs.declared.entity.EntityUID.{EntityUID}
use Rattle.cedar_entity.specs.View.{EntityView, has_ancestor}
use Rattle.cedar_entity_maps.specs.Modes.{ancestry}
use Rattle.cedar_entity_maps.specs.Plain.{EntityMap, keyed}
use Rattle.cedar_entity_maps.specs.InputStore.{reversed}

-- The uids of a list of entities.
abbrev pub uids_of : List EntityView → List EntityUID
uids_of L = map (λ e. e.uid) L

-- Whether w is a stale ancestor of the entity e because of an edit of u. D contains u, u is an ancestor of e, and w is
-- u or an ancestor of u. For example, if e has the ancestors u and w, and u has the ancestor w, then an edit of u makes
-- both stale.
abbrev pub is_stale : EntityMap → EntityView → EntityUID → EntityUID → Bool
is_stale D e w u = (finmap.contains_key D u && has_ancestor e u) && (same_uid u w || ancestry D u w)

-- The entity without the indirect ancestors that are stale because of an edit of the uids in the list. All of them are
-- determined before any is removed.
abbrev pub without_stale : EntityMap → List EntityUID → EntityView → EntityView
without_stale D A e = record e { indirect = set.retain e.indirect (λ w. not (list_any (is_stale D e w) A)) }

-- The entity map D after overwriting with a list of entities. At each uid of the list it has the last entity of the
-- list with that uid. Every other entity of D remains, without its stale ancestors.
abbrev pub overwrite : EntityMap → List EntityView → EntityMap
overwrite D L = finmap.from_entries (reversed (map keyed L)
    ++ map (λ e. (e.0, without_stale D (uids_of L) e.1)) (finmap.entries D))

-- Whether a removal of the uids in the list removes u: u is in the list, and D contains it.
abbrev pub is_removed_by : EntityMap → List EntityUID → EntityUID → Bool
is_removed_by D U u = is_member same_uid U u && finmap.contains_key D u

-- The entity without its removed parents.
abbrev pub without_removed_parents : (EntityUID → Bool) → EntityView → EntityView
without_removed_parents removed e = record e { parents = set.retain e.parents (λ p. not (removed p)) }

-- The entity map D after the removal of the uids in the list. Their entities are removed. Every other entity remains,
-- without the removed parents and without its stale ancestors.
abbrev pub removed_all : EntityMap → List EntityUID → EntityMap
removed_all D U = finmap.from_entries (map (λ e. (e.0, without_removed_parents (is_removed_by D U) (without_stale D U e.1)))
    (finmap.entries (finmap.retain_keys D (λ k. not (is_removed_by D U k)))))
