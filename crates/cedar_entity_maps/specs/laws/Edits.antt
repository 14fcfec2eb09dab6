-- The entity map after an edit before it is finalized, and the steps on the way.
use Rattle.std.specs.Prelude.{◌≡◌, ◌||◌, Bool, cond, not, is_some, List, map, None, Option}
use Rattle.std.specs.Option.{option_map, option_or}
use Rattle.std.specs.Set.{is_member}
use Rattle.std.specs.FinSet as set
use Rattle.std.specs.FinMap as finmap
use Rattle.cedar_ids.specs.UidOf.{same_uid, uid_order}
use Rattle.cedar_ids.specs.declared.entity.EntityUID.{EntityUID}
use Rattle.cedar_entity.specs.View.{EntityView}
use Rattle.cedar_entity_maps.specs.Edits.{without_stale, without_removed_parents}
use Rattle.cedar_entity_maps.specs.Plain.{EntityMap, keyed}
use Rattle.cedar_entity_maps.specs.InputStore.{reversed}

-- The last entity of a list with a uid.
abbrev pub last_entity : List EntityView → EntityUID → Option EntityView
last_entity L q = finmap.find uid_order q (reversed (map keyed L))

-- The entity without some parents and some indirect ancestors.
abbrev pub stripped : (EntityUID → Bool) → (EntityUID → Bool) → EntityView → EntityView
stripped parents indirect e = record e {
  parents = set.retain e.parents (λ p. not (parents p));
  indirect = set.retain e.indirect (λ w. not (indirect w));
}

-- The entity without its indirect ancestors.
abbrev pub bared : EntityView → EntityView
bared e = record e { indirect = set.empty }

-- An entity that remains after an edit of the uids A: without the removed parents and without its stale ancestors.
abbrev pub remains : EntityMap → (EntityUID → Bool) → List EntityUID → EntityView → EntityView
remains D removed A e = without_removed_parents removed (without_stale D A e)

-- The entity at q after an edit: the added entity, or nothing if q is removed, or the remaining entity.
abbrev pub edited_at : EntityMap → (EntityUID → Bool) → List EntityUID → (EntityUID → Option EntityView) → EntityUID
    → Option EntityView
edited_at D removed A put q = option_or (put q) (cond (removed q) None (option_map (remains D removed A) (finmap.get D q)))

-- Holds if M is the entity map after an edit of D. The uids A are the added and the removed ones.
pub record IsEdit (D M : EntityMap) (removed : EntityUID → Bool) (put : EntityUID → Option EntityView) (A : List EntityUID)
    : Type 0 where
  pub applied : (q : EntityUID) → is_member same_uid A q ≡ (is_some (put q) || removed q)
  pub made : (q : EntityUID) → finmap.get M q ≡ edited_at D removed A put q
