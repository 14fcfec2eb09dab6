-- The entities in the lists of a caller with their content: attributes, tags and indirect ancestors.
use Rattle.std.specs.Prelude.{◌≡◌, ◌⊎◌, ◌<◌, ◌≤◌, ◌==◌, ℕ, ◌+◌, List, [], ◌∷◌, Option, Some, None, Result, filter_map}
use Rattle.std.specs.Prelude.{if◌then◌else◌, length, slice_get, slice_range, take}
use Rattle.std.specs.List.{AllByRecursion, AllZip}
use Rattle.std.specs.FinSet as set
use Rattle.cedar_ids.specs.declared.entity.EntityUID.{EntityUID}
use Rattle.cedar_terms.specs.declared.partial_value.PartialValue.{PartialValue}
use Rattle.cedar_entity.specs.Fields.{AreFieldsOf, Fields}
use Rattle.cedar_entity.specs.View.{EntityView}
use Rattle.cedar_entity_maps.specs.declared.modes.TCComputation.{TCComputation}
use Rattle.cedar_c_lists.specs.Stops.{IsStopped}
use Rattle.cedar_c_lists.specs.Texts.{AreReadAt, IsInside, IsOneUnread}
use Rattle.cedar_c_lists.specs.declared.layout.Edge.{Edge}
use Rattle.cedar_c_lists.specs.declared.layout.Span.{Span}
use Rattle.cedar_c_lists.specs.declared.reason.Reason.{Reason}
use Rattle.cedar_c_lists.specs.declared.reason.Reason.TheVariants.{BadArgument, NotUtf8}
use Rattle.cedar_c_trees.specs.Partials.{IsPartialReadAs, IsPartialRefused}
use Rattle.cedar_c_trees.specs.Reads.{IsTextAt}
use Rattle.cedar_c_trees.specs.Refusals.{IsNotUtf8At}
use Rattle.cedar_c_trees.specs.declared.node.Node.{Node}
use Rattle.cedar_c_stores.specs.Lists.{AreEdgesOf, AreInRange, IsMode, IsNoMode, parents_at}
use Rattle.cedar_c_stores.specs.Stores.{Adds, Builds, KeepsTexts, Upserts}
use Rattle.cedar_c_stores.specs.declared.content.Content.{Content}
use Rattle.cedar_c_stores.specs.declared.content.Term.{Term}
use Rattle.cedar_c_stores.specs.declared.store_state.StoreState.{StoreState}
use Rattle.cedar_c_stores.specs.declared.store_calls.EntityLists.{EntityLists}

-- The input of a call that takes entities with content. The spans in `uids` are parts of `text`, and the first `count`
-- are the uids of the entities. `edges` lead from entities to parents, and `above` from entities to indirect ancestors.
-- `terms` are the attributes and tags, and `nodes` are the nodes of their values.
pub record ListInput : Type 0 where
  pub text : List ℕ
  pub uids : List Span
  pub count : ℕ
  pub edges : List Edge
  pub above : List Edge
  pub terms : List Term
  pub nodes : List Node

-- The input that consists of lists and their content.
abbrev pub from_lists_by : EntityLists → Content → ListInput
from_lists_by l c = record {
  text = l.text.now;
  uids = l.uids.now;
  count = l.count;
  edges = l.edges.now;
  above = c.above.now;
  terms = c.terms.now;
  nodes = c.nodes.now;
}

-- ---- attributes and tags

-- An attribute (`part` 0) or a tag (`part` 1) of the entity at position `of`, with its key and its value.
pub record Field : Type 0 where
  pub of : ℕ
  pub part : ℕ
  pub key : List ℕ
  pub value : PartialValue

-- The nodes of a term.
abbrev pub nodes_of : List Node → Term → List Node
nodes_of ns t = slice_range ns t.from t.to

-- Holds if f is the attribute or tag of the term t: the key is the text in the span of the term, and the nodes of the
-- term encode the value.
pub record IsFieldOf (text : List ℕ) (ns : List Node) (t : Term) (f : Field) : Type 0 where
  pub of : f.of ≡ t.of
  pub part : f.part ≡ t.part
  pub key : IsTextAt text t.key f.key
  pub value : IsPartialReadAs text (nodes_of ns t) f.value

-- The key and the value of a field, if it is in part p of the entity at position i.
abbrev pub field_by : ℕ → ℕ → Field → Option (List ℕ × PartialValue)
field_by p i f = if f.of == i then (if f.part == p then Some (f.key, f.value) else None) else None

-- The attributes (p is 0) or the tags (p is 1) of the entity at position i, in the order of the fields.
abbrev pub fields_at : List Field → ℕ → ℕ → Fields
fields_at fs p i = filter_map (field_by p i) fs

-- ---- entities

-- The parts of an entity in the input: its uid, its parents, its indirect ancestors, its attributes and its tags.
pub record EntityParts : Type 0 where
  pub uid : EntityUID
  pub parents : List EntityUID
  pub above : List EntityUID
  pub attrs : Fields
  pub tags : Fields

-- The parts of the entity at position i with uid u: the parents from the edges es, the indirect ancestors from the
-- edges far, and the attributes and tags from the fields.
abbrev pub entity_parts_at : List EntityUID → List Edge → List Edge → List Field → ℕ → EntityUID → EntityParts
entity_parts_at us es far fs i u = record {
  uid = u;
  parents = parents_at us es i;
  above = parents_at us far i;
  attrs = fields_at fs 0 i;
  tags = fields_at fs 1 i;
}

-- The results of F for each item and its position, if the first item is at position i. For example, placed F 3 (x ∷ y ∷
-- []) is F 3 x ∷ F 4 y ∷ [].
abbrev pub placed : {A B : Type 0} → (ℕ → A → B) → ℕ → List A → List B
placed F i [] = []
placed F i (x ∷ xs) = F i x ∷ placed F (i + 1) xs

-- Holds if e is the entity with these parts. Of several fields with the same key the last one counts. A parent is not
-- an indirect ancestor.
pub record IsEntityOf (s : EntityParts) (e : EntityView) : Type 0 where
  pub uid : e.uid ≡ s.uid
  pub attrs : AreFieldsOf s.attrs e.attrs
  pub tags : AreFieldsOf s.tags e.tags
  pub parents : e.parents ≡ set.from_list s.parents
  pub indirect : e.indirect ≡ set.difference (set.from_list s.above) e.parents

-- ---- lists

-- Holds if a term is in range: its entity is one of n, its part is 0 or 1, its key is within the text, and its nodes
-- are among the nodes.
pub record IsTermIn (text : List ℕ) (ns : List Node) (n : ℕ) (t : Term) : Type 0 where
  pub of : t.of < n
  pub part : t.part ≤ 1
  pub key : IsInside text t.key
  pub from : t.from ≤ t.to
  pub to : t.to ≤ length ns

-- Holds if all spans, edges and terms of an input are in range.
pub record IsInputInRange (L : ListInput) : Type 0 where
  pub lists : AreInRange L.text L.uids L.count L.edges
  pub above : AreEdgesOf L.count (length L.uids) L.above
  pub terms : AllByRecursion (IsTermIn L.text L.nodes L.count) L.terms

-- Holds if an input is in range, and the list has exactly its entities, in order. The uids and the fields are parsed
-- from the input.
pub record AreFromLists (L : ListInput) (list : List EntityView) : Type 0 where
  pub in_range : IsInputInRange L
  pub uids : List EntityUID
  pub read : AreReadAt L.text uids L.uids
  pub fields : List Field
  pub terms : AllZip (IsFieldOf L.text L.nodes) L.terms fields
  pub entities : AllZip IsEntityOf (placed (entity_parts_at uids L.edges L.above fields) 0 (take L.count uids)) list

-- Holds if w is a reason why a term cannot be read: its key is not UTF-8, or its nodes do not encode a partial value.
abbrev pub IsTermUnread : List ℕ → List Node → Term → Reason → Type 0
IsTermUnread text ns t w =
    ((w ≡ NotUtf8) × IsNotUtf8At text t.key)
    ⊎ ((t.from ≤ t.to) × (t.to ≤ length ns) × IsPartialRefused text (nodes_of ns t) w)

-- Holds if w is a reason why the entities of an input cannot be created: a uid cannot be parsed, something is out of
-- range, or a term cannot be read.
abbrev pub IsNotFromLists : ListInput → Reason → Type 0
IsNotFromLists L w =
    IsOneUnread L.text L.uids w ⊎ (((w ≡ BadArgument) × (IsInputInRange L → ⊥))
    ⊎ ((k : ℕ) × (t : Term) × (slice_get L.terms k ≡ Some t) × IsTermUnread L.text L.nodes t w))

-- ---- calls

-- Holds for a call that replaces the store by the entities of an input, in the mode of a number. If the mode or the
-- input cannot be read, the call fails and changes nothing.
abbrev pub BuildsFromLists : {A B H : Type 0} → ListInput → ℕ → Result A Reason → StoreState B H → StoreState B H → Type 0
BuildsFromLists L mode r i j =
    IsStopped (λ w. IsNoMode mode w ⊎ IsNotFromLists L w) r i j
    ⊎ ((m : TCComputation) × (list : List EntityView) × IsMode mode m × AreFromLists L list × Builds m list i.store r j
    × KeepsTexts r i j)

-- Holds for a call that adds the entities of an input to the store, in the mode of a number. If the mode or the input
-- cannot be read, the call fails and changes nothing.
abbrev pub AddsFromLists : {A B H : Type 0} → ListInput → ℕ → Result A Reason → StoreState B H → StoreState B H → Type 0
AddsFromLists L mode r i j =
    IsStopped (λ w. IsNoMode mode w ⊎ IsNotFromLists L w) r i j
    ⊎ ((m : TCComputation) × (list : List EntityView) × IsMode mode m × AreFromLists L list × Adds m list i.store r j
    × KeepsTexts r i j)

-- Holds for a call that upserts the entities of an input into the store, in the mode of a number. If the mode or the
-- input cannot be read, the call fails and changes nothing.
abbrev pub UpsertsFromLists : {A B H : Type 0} → ListInput → ℕ → Result A Reason → StoreState B H → StoreState B H → Type 0
UpsertsFromLists L mode r i j =
    IsStopped (λ w. IsNoMode mode w ⊎ IsNotFromLists L w) r i j
    ⊎ ((m : TCComputation) × (list : List EntityView) × IsMode mode m × AreFromLists L list × Upserts m list i.store r j
    × KeepsTexts r i j)
