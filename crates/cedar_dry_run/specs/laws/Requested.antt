-- The part of a store that a dry run reads.
use Rattle.std.specs.Prelude.{◌≡◌, true, List}
use Rattle.std.specs.FinSet as set
use Rattle.std.specs.List.{AllByRecursion}
use Rattle.std.specs.Set.{is_member}
use Rattle.cedar_ids.specs.UidOf.{same_uid}
use Rattle.cedar_ids.specs.declared.entity.EntityUID.{EntityUID}
use Rattle.cedar_entity.specs.View.{EntityView}
use Rattle.cedar_entity_maps.specs.Plain.{StoreView, IsPlainStore}
use Rattle.cedar_entity_maps.specs.InputStore.{InputStore}
use Rattle.cedar_slice.specs.Slices.{sliced, IsPlainSlice}

-- Holds if the list has the uid of the entity and the uids of its parents.
abbrev pub IsAsked : List EntityUID → EntityView → Type 0
IsAsked U e = (is_member same_uid U e.uid ≡ true)
    × ((p : EntityUID) → set.contains e.parents p ≡ true → is_member same_uid U p ≡ true)

-- Holds if the list has the uids and the parents of all of the entities.
abbrev pub AreAsked : List EntityUID → List EntityView → Type 0
AreAsked U L = AllByRecursion (IsAsked U) L

-- Holds if N is a slice of S at uids that include the uids and the parents of the entities.
pub record IsPartFor (S : StoreView) (L : List EntityView) (N : StoreView) : Type 0 where
  pub uids : List EntityUID
  pub asked : AreAsked uids L
  pub entities : N.entities ≡ sliced S.entities uids
  pub plain : (W : InputStore) → IsPlainStore W S → IsPlainSlice W uids N
