-- Sets of uids as values, and ascending lists of uids.
use Rattle.std.specs.Prelude.{◌≡◌, Bool, ◌&&◌, List}
use Rattle.std.specs.List.Retain.{IsFiltered}
use Rattle.std.specs.List.Sorted.{IsStrictlySortedBy}
use Rattle.std.specs.FinSet as set
use Rattle.cedar_ids.specs.UidOf.{uid_order}
use Rattle.cedar_ids.specs.declared.entity.EntityUID.{EntityUID}

-- A finite set of uids.
abbrev pub UidValues : Type 0
UidValues = set.FinSet uid_order

-- Holds if each uid is less than the next. Then no uid occurs twice.
abbrev pub Ascend : List EntityUID → Type 0
Ascend us = IsStrictlySortedBy uid_order us

-- Holds if the list contains the uids of the set, in ascending order.
pub record ListsInOrder (s : UidValues) (us : List EntityUID) : Type 0 where
  pub all : set.from_list us ≡ s
  pub ascending : Ascend us

-- Whether two sets contain the same uids: each is a subset of the other.
abbrev pub same_uids : UidValues → UidValues → Bool
same_uids s t = set.is_subset s t && set.is_subset t s

-- Holds if `t` contains the uids of `s` for which a test returned `true`. The test was called once for each uid of `s`,
-- in ascending order, beginning in state `f`. `R` relates a state, a uid, the returned value and the next state.
pub record Retains {F : Type 0} (R : F → EntityUID → Bool → F → Type 0) (f : F) (s t : UidValues) : Type 0 where
  pub before : List EntityUID
  pub after : List EntityUID
  pub was : ListsInOrder s before
  pub is : ListsInOrder t after
  pub filtered : IsFiltered R f before after
