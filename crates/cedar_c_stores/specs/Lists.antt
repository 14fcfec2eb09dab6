-- The entities in the lists of a caller: uids, and edges to parents. The first uids are the uids of the entities.
use Rattle.std.specs.Prelude.{◌≡◌, ◌⊎◌, ◌<◌, ◌≤◌, ◌==◌, ℕ, ◌+◌, List, [], ◌∷◌, Option, Some, None, filter_map}
use Rattle.std.specs.Prelude.{if◌then◌else◌, length, slice_get, take}
use Rattle.std.specs.FinSet as set
use Rattle.cedar_ids.specs.declared.entity.EntityUID.{EntityUID}
use Rattle.cedar_entity.specs.View.{EntityView}
use Rattle.cedar_entity_maps.specs.Plain.{HaveNoIndirect}
use Rattle.cedar_entity_maps.specs.declared.modes.TCComputation.{TCComputation}
use Rattle.cedar_entity_maps.specs.declared.modes.TCComputation.TheVariants.{AssumeAlreadyComputed}
use Rattle.cedar_entity_maps.specs.declared.modes.TCComputation.TheVariants.{EnforceAlreadyComputed, ComputeNow}
use Rattle.cedar_c_lists.specs.Texts.{AreReadAt, IsInside, IsOneUnread}
use Rattle.cedar_c_lists.specs.declared.layout.Edge.{Edge}
use Rattle.cedar_c_lists.specs.declared.layout.Span.{Span}
use Rattle.cedar_c_lists.specs.declared.reason.Reason.{Reason}
use Rattle.cedar_c_lists.specs.declared.reason.Reason.TheVariants.{BadArgument}

-- The entity with a uid and these parents, without anything else.
abbrev pub with_parents : EntityUID → List EntityUID → EntityView
with_parents u ps = record { uid = u; attrs = []; tags = []; parents = set.from_list ps; indirect = set.empty }

-- The uid at the target of an edge, if the source of the edge is position i.
abbrev pub parent_by : List EntityUID → ℕ → Edge → Option EntityUID
parent_by us i e = if e.from == i then slice_get us e.to else None

-- The uids at the targets of the edges from position i, in the order of the edges.
abbrev pub parents_at : List EntityUID → List Edge → ℕ → List EntityUID
parents_at us es i = filter_map (parent_by us i) es

-- The entities with the given uids, which are at the positions from i on, and with the parents in the edges.
abbrev pub entities_from : List EntityUID → List Edge → ℕ → List EntityUID → List EntityView
entities_from us es i [] = []
entities_from us es i (u ∷ rest) = with_parents u (parents_at us es i) ∷ entities_from us es (i + 1) rest

-- The entities with the first n uids, in order, and with the parents in the edges. For example, with one uid and no
-- edges it is one entity without parents.
abbrev pub entities_by : List EntityUID → List Edge → ℕ → List EntityView
entities_by us es n = entities_from us es 0 (take n us)

-- Holds if the source of an edge is less than n, and its target is less than m.
abbrev pub IsEdgeOf : ℕ → ℕ → Edge → Type 0
IsEdgeOf n m e = (e.from < n) × (e.to < m)

-- Holds if the source of each edge is less than n, and its target is less than m.
abbrev pub AreEdgesOf : ℕ → ℕ → List Edge → Type 0
AreEdgesOf n m es = (k : ℕ) (e : Edge) → slice_get es k ≡ Some e → IsEdgeOf n m e

-- Holds if all spans are within the text, there are at least n spans, and each edge leads from one of the first n to
-- one of all spans.
pub record AreInRange (text : List ℕ) (spans : List Span) (n : ℕ) (es : List Edge) : Type 0 where
  pub inside : (k : ℕ) (s : Span) → slice_get spans k ≡ Some s → IsInside text s
  pub enough : n ≤ length spans
  pub leading : AreEdgesOf n (length spans) es

-- Holds if the lists are in range, and L has exactly their entities, in order. The uids are parsed from the spans. No
-- entity has indirect ancestors.
pub record AreListed (text : List ℕ) (spans : List Span) (n : ℕ) (es : List Edge) (L : List EntityView) : Type 0 where
  pub in_range : AreInRange text spans n es
  pub uids : List EntityUID
  pub read : AreReadAt text uids spans
  pub entities : L ≡ entities_by uids es n
  pub bare : HaveNoIndirect L

-- Holds if w is a reason why the entities cannot be created: a uid cannot be parsed, or something is out of range.
abbrev pub IsUnlisted : List ℕ → List Span → ℕ → List Edge → Reason → Type 0
IsUnlisted text spans n es w = IsOneUnread text spans w ⊎ ((w ≡ BadArgument) × (AreInRange text spans n es → ⊥))

-- Holds if n is the number of the mode.
abbrev pub IsMode : ℕ → TCComputation → Type 0
IsMode n ComputeNow = n ≡ 0
IsMode n EnforceAlreadyComputed = n ≡ 1
IsMode n AssumeAlreadyComputed = n ≡ 2

-- Holds if n is not the number of a mode and w is `BadArgument`.
abbrev pub IsNoMode : ℕ → Reason → Type 0
IsNoMode n w = (w ≡ BadArgument) × ((m : TCComputation) → IsMode n m → ⊥)
