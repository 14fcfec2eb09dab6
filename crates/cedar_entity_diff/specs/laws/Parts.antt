-- The part of a store that decides what an edit changes.
use Rattle.std.specs.Prelude.{◌≡◌, ◌⊎◌, true, List, Some}
use Rattle.std.specs.List.{AllByRecursion}
use Rattle.std.specs.Set.{is_member}
use Rattle.std.specs.FinMap as finmap
use Rattle.cedar_ids.specs.UidOf.{same_uid}
use Rattle.cedar_ids.specs.declared.entity.EntityUID.{EntityUID}
use Rattle.cedar_entity.specs.View.{EntityView}
use Rattle.cedar_entity_maps.specs.Affected.{is_affected}
use Rattle.cedar_entity_maps.specs.Edits.{uids_of}
use Rattle.cedar_entity_maps.specs.Plain.{EntityMap, StoreView, IsPlainStore}
use Rattle.cedar_entity_maps.specs.InputStore.{InputStore}
use Rattle.cedar_slice.specs.Slices.{sliced, IsPlainSlice}
use Rattle.cedar_dry_run.specs.laws.Requested.{IsPartFor}

-- Holds if the list has all uids that an edit of `edited` affects in D.
abbrev pub HasAffected : EntityMap → (edited uids : List EntityUID) → Type 0
HasAffected D edited uids = (q : EntityUID) → is_affected D edited q ≡ true → is_member same_uid uids q ≡ true

-- Holds if N is a slice of S at uids that include `requested` and the uids that an edit of `edited` affects.
pub record IsPartAt (S : StoreView) (requested edited : List EntityUID) (N : StoreView) : Type 0 where
  pub uids : List EntityUID
  pub asked : (q : EntityUID) → is_member same_uid requested q ≡ true → is_member same_uid uids q ≡ true
  pub affected : HasAffected S.entities edited uids
  pub entities : N.entities ≡ sliced S.entities uids
  pub plain : (W : InputStore) → IsPlainStore W S → IsPlainSlice W uids N

-- Holds if N is a slice of S at uids that include the uids and the parents of the entities, and the uids that an edit
-- of `edited` affects.
pub record IsEditPart (S : StoreView) (edited : List EntityUID) (L : List EntityView) (N : StoreView) : Type 0 where
  pub part : IsPartFor S L N
  pub affected : HasAffected S.entities edited part.uids

-- Holds if D has an entity with the uid and the parents of e.
pub record HasSameParents (D : EntityMap) (e : EntityView) : Type 0 where
  pub stored : EntityView
  pub found : finmap.get D e.uid ≡ Some stored
  pub parents : e.parents ≡ stored.parents

-- Holds if overwriting D with the list changes no parents.
abbrev pub HaveSameParents : EntityMap → List EntityView → Type 0
HaveSameParents D L = AllByRecursion (HasSameParents D) L

-- Holds if N is a slice of S at uids that include the uids and the parents of the entities. It also has the entities that
-- overwriting S with the list affects, or the list changes no parents.
pub record IsUpsertPart (S : StoreView) (L : List EntityView) (N : StoreView) : Type 0 where
  pub part : IsPartFor S L N
  pub affected : HaveSameParents S.entities L ⊎ HasAffected S.entities (uids_of L) part.uids
