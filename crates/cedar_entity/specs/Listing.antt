-- The lists of the iterators over uids.
use Rattle.std.specs.Prelude.{◌≡◌, List, ◌++◌}
use Rattle.std.specs.FinSet as set
use Rattle.std.specs.List.{IsDistinct}
use Rattle.std.specs.Set.{is_member}
use Rattle.cedar_ids.specs.UidOf.{same_uid}
use Rattle.cedar_ids.specs.declared.entity.EntityUID.{EntityUID}
use Rattle.cedar_uid_sets.specs.UidSets.{Ascend, UidValues}
use Rattle.cedar_entity.specs.View.{EntityView}

-- Holds if the list has the uids of the set, each once.
pub record Lists (s : UidValues) (us : List EntityUID) : Type 0 where
  pub members : (q : EntityUID) → is_member same_uid us q ≡ set.contains s q
  pub once : IsDistinct same_uid us

-- Holds if the list has the uids of the first set and then the uids of the second set, each set in ascending order
-- without repetition.
pub record ListsBoth (s t : UidValues) (us : List EntityUID) : Type 0 where
  pub first : List EntityUID
  pub others : List EntityUID
  pub in_turn : us ≡ first ++ others
  pub parents : Lists s first
  pub indirect : Lists t others
  pub parents_ascend : Ascend first
  pub indirect_ascend : Ascend others

-- Holds if the list has the parents and then the indirect ancestors, each in ascending order without repetition.
abbrev pub ListsAncestors : EntityView → List EntityUID → Type 0
ListsAncestors e us = ListsBoth e.parents e.indirect us
