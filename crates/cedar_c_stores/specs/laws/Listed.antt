-- The parents of entities, collected edge by edge.
use Rattle.std.specs.Prelude.{◌≡◌, ◌⊎◌, ◌++◌, ℕ, ◌+◌, ◌<◌, ◌≤◌, List, [], ◌∷◌, Some, length, slice_get, zero, suc}
use Rattle.cedar_ids.specs.declared.entity.EntityUID.{EntityUID}
use Rattle.cedar_entity.specs.View.{EntityView}
use Rattle.cedar_c_stores.specs.Lists.{AreEdgesOf, IsEdgeOf, entities_by, parents_at}
use Rattle.cedar_c_lists.specs.declared.layout.Edge.{Edge}
use Rattle.cedar_c_lists.specs.declared.reason.Reason.{Reason}
use Rattle.cedar_c_lists.specs.declared.reason.Reason.TheVariants.{NoMemory, BadArgument}

-- A uid, and the parents that were collected for it.
abbrev pub Gathered : Type 0
Gathered = EntityUID × List EntityUID

-- The list with the parent u appended to the item at position k.
abbrev pub with_edge : ℕ → EntityUID → List Gathered → List Gathered
with_edge k u [] = []
with_edge zero u (g ∷ gs) = (g.0, g.1 ++ u ∷ []) ∷ gs
with_edge (suc k) u (g ∷ gs) = g ∷ with_edge k u gs

-- The given uids, which are at the positions from i on, each with the parents in the edges.
abbrev pub listed_from : List EntityUID → List Edge → ℕ → List EntityUID → List Gathered
listed_from us es i [] = []
listed_from us es i (u ∷ rest) = (u, parents_at us es i) ∷ listed_from us es (i + 1) rest

-- Holds if L has the entities with the first n uids and with the parents in the edges. There are at least n uids, and
-- all edges are in range.
pub record IsGathered (us : List EntityUID) (n : ℕ) (es : List Edge) (L : List EntityView) : Type 0 where
  pub enough : n ≤ length us
  pub leading : AreEdgesOf n (length us) es
  pub entities : L ≡ entities_by us es n

-- Holds if w is `NoMemory`, or if w is `BadArgument` and an edge is out of range: its source is not less than n, or its
-- target is not less than m.
abbrev pub IsSomeEdgeOut : ℕ → ℕ → List Edge → Reason → Type 0
IsSomeEdgeOut n m es w =
    (w ≡ NoMemory) ⊎ ((w ≡ BadArgument) × ((k : ℕ) × (e : Edge) × (slice_get es k ≡ Some e) × (IsEdgeOf n m e → ⊥)))

-- Holds if w is a reason why the first n of m uids cannot become entities: there are fewer uids, an edge is out of
-- range, or an allocation failed.
abbrev pub IsUngathered : ℕ → ℕ → List Edge → Reason → Type 0
IsUngathered m n es w = ((w ≡ BadArgument) × (m < n)) ⊎ IsSomeEdgeOut n m es w
