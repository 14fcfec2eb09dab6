-- Addition of entities to an entity map. The entities may have indirect ancestors.
use Rattle.std.specs.Prelude.{◌≡◌, List, ◌∷◌, ◌++◌, map, Option}
use Rattle.std.specs.Option.{option_or, unwrap_or}
use Rattle.std.specs.List.{AllByRecursion}
use Rattle.std.specs.FinMap as finmap
use Rattle.cedar_ids.specs.UidOf.{uid_order}
use Rattle.cedar_ids.specs.declared.entity.EntityUID.{EntityUID}
use Rattle.cedar_entity.specs.View.{EntityView, IsDeepEqual}
use Rattle.cedar_entity_maps.specs.Plain.{EntityMap, keyed}

-- The first entity of a list with a uid.
abbrev pub first_entity : List EntityView → EntityUID → Option EntityView
first_entity L q = finmap.find uid_order q (map keyed L)

-- The entity map D with entities added. A uid that is not in D gets the first entity of the list with that uid.
abbrev pub with_first : EntityMap → List EntityView → EntityMap
with_first D L = finmap.from_entries (finmap.entries D ++ map keyed L)

-- The existing entity with the uid of e, or the first entity of the list with that uid, or e itself.
abbrev pub present : (EntityUID → Option EntityView) → List EntityView → EntityView → EntityView
present entity_at L e = unwrap_or (option_or (entity_at e.uid) (first_entity L e.uid)) e

-- Holds if e is deeply equal to the existing entity with its uid or, if there is none, to the first entity of the list
-- with its uid.
abbrev pub MatchesPresent : (EntityUID → Option EntityView) → List EntityView → EntityView → Type 0
MatchesPresent entity_at L e = IsDeepEqual (present entity_at L e) e

-- Holds if each entity of the list is deeply equal to the existing one.
abbrev pub AllMatch : (EntityUID → Option EntityView) → List EntityView → Type 0
AllMatch entity_at L = AllByRecursion (MatchesPresent entity_at L) L

-- Holds if u is the uid of the first entity of the list that is not deeply equal to the existing one.
pub record FirstMismatch (entity_at : EntityUID → Option EntityView) (L : List EntityView) (u : EntityUID) : Type 0 where
  pub before : List EntityView
  pub at : EntityView
  pub after : List EntityView
  pub place : L ≡ before ++ at ∷ after
  pub agree : AllByRecursion (MatchesPresent entity_at L) before
  pub differs : MatchesPresent entity_at L at → ⊥
  pub uid : at.uid ≡ u
