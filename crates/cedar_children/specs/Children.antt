-- The children in an index of children, and the descendants of some uids.
use Rattle.std.specs.Prelude.{◌≡◌, ◌⊎◌, Bool, true, false, List, Option, Some, None}
use Rattle.std.specs.HashMap.{get}
use Rattle.std.specs.HashSet.{HashSet, contains}
use Rattle.std.specs.Set.{is_member}
use Rattle.cedar_graph.specs.Graph.{Reach}
use Rattle.cedar_ids.specs.UidOf.{same_uid}
use Rattle.cedar_ids.specs.declared.entity.EntityUID.{EntityUID}
use Rattle.cedar_children.specs.declared.children.Children.{Children}

-- Whether q is in the set, if there is one.
abbrev pub is_in : {S : Type 0} → Option (HashSet EntityUID S) → EntityUID → Bool
is_in None q = false
is_in (Some s) q = contains same_uid s q

-- Whether q is a child of p.
abbrev pub is_child : {S H : Type 0} → Children S H → EntityUID → EntityUID → Bool
is_child c p q = is_in (get same_uid c.sets p) q

-- Whether a has the parent b.
abbrev pub is_parent : {S H : Type 0} → Children S H → EntityUID → EntityUID → Bool
is_parent c a b = is_child c b a

-- Holds if q is one of the uids of the list or a descendant of one of them. The test `parent a b` states that a has the
-- parent b.
abbrev pub IsDescendantOrSelf : (EntityUID → EntityUID → Bool) → List EntityUID → EntityUID → Type 0
IsDescendantOrSelf parent A q = (is_member same_uid A q ≡ true) ⊎ ((u : EntityUID) × (is_member same_uid A u ≡ true)
    × Reach parent q u)
