-- The parts of entities, collected edge by edge and term by term.
use Rattle.std.specs.Prelude.{◌≡◌, ◌⊎◌, ◌<◌, ◌≤◌, ◌==◌, ℕ, List, [], ◌∷◌, ◌++◌, Option, Some, None, if◌then◌else◌}
use Rattle.std.specs.Prelude.{length, slice_get, take, zero, suc}
use Rattle.std.specs.Coded.{Coded, code_by, coded×, coded_list}
use Rattle.std.specs.List.{AllByRecursion, AllZip, cons_option}
use Rattle.std.specs.FinSet as set
use Rattle.std.proofs.Common.{refl}
use Rattle.cedar_ids.specs.Codes.{uid_code}
use Rattle.cedar_ids.specs.declared.entity.EntityUID.{EntityUID}
use Rattle.cedar_terms.specs.declared.partial_value.PartialValue.{PartialValue}
use Rattle.cedar_entity.specs.Codes.{fields_code}
use Rattle.cedar_entity.specs.Fields.{AreFieldsOf, Fields}
use Rattle.cedar_entity.specs.View.{EntityView}
use Rattle.cedar_c_lists.specs.Texts.{IsInside}
use Rattle.cedar_c_lists.specs.declared.layout.Edge.{Edge}
use Rattle.cedar_c_lists.specs.declared.layout.Span.{Span}
use Rattle.cedar_c_lists.specs.declared.reason.Reason.{Reason}
use Rattle.cedar_c_lists.specs.declared.reason.Reason.TheVariants.{NoMemory, BadArgument, NotUtf8}
use Rattle.cedar_c_trees.specs.Partials.{IsPartialReadAs, IsPartialRefused}
use Rattle.cedar_c_trees.specs.Refusals.{IsNotUtf8At}
use Rattle.cedar_c_trees.specs.declared.node.Node.{Node}
use Rattle.cedar_c_stores.specs.Contents.{Field, IsFieldOf, IsTermIn, IsTermUnread, ListInput, EntityParts, nodes_of, placed, entity_parts_at}
use Rattle.cedar_c_stores.specs.Lists.{AreEdgesOf, IsEdgeOf}
use Rattle.cedar_c_stores.specs.declared.content.Term.{Term}
use Rattle.cedar_c_stores.specs.laws.Listed.{Gathered, IsSomeEdgeOut, IsUngathered}

-- The parts of an entity as nested pairs.
abbrev pub SaidParts : Type 0
SaidParts = EntityUID × ((List EntityUID × List EntityUID) × (Fields × Fields))

-- The code of the parts of an entity, by their nested pairs.
abbrev pub said_code : Coded EntityParts
said_code =
    code_by SaidParts
    (coded× uid_code (coded× (coded× (coded_list uid_code) (coded_list uid_code)) (coded× fields_code fields_code)))
    (λ s. (s.uid, ((s.parents, s.above), (s.attrs, s.tags))))
    (λ p. record { uid = p.0; parents = p.1.0.0; above = p.1.0.1; attrs = p.1.1.0; tags = p.1.1.1 }) (λ _. refl)

-- The parts of an entity with only a uid and parents.
abbrev pub said_of : Gathered → EntityParts
said_of g = record { uid = g.0; parents = g.1; above = []; attrs = []; tags = [] }

-- The parts with one more indirect ancestor.
abbrev pub with_above : EntityUID → EntityParts → EntityParts
with_above u s = record s { above = s.above ++ u ∷ [] }

-- A key and a value, if their part q is p.
abbrev pub in_part : ℕ → ℕ → List ℕ → PartialValue → Option (List ℕ × PartialValue)
in_part p q key value = if q == p then Some (key, value) else None

-- The parts with one more attribute (q is 0) or tag (q is 1).
abbrev pub with_field : ℕ → List ℕ → PartialValue → EntityParts → EntityParts
with_field q key value s = record s {
  attrs = s.attrs ++ cons_option (in_part 0 q key value) [];
  tags = s.tags ++ cons_option (in_part 1 q key value) [];
}

-- The list with f applied to the item at position k.
abbrev pub changed_at : {A : Type 0} → ℕ → (A → A) → List A → List A
changed_at k f [] = []
changed_at zero f (x ∷ xs) = f x ∷ xs
changed_at (suc k) f (x ∷ xs) = x ∷ changed_at k f xs

-- Holds if e is the entity with this uid and these fields, without ancestors.
pub record HasFields (u : EntityUID) (attrs tags : Fields) (e : EntityView) : Type 0 where
  pub uid : e.uid ≡ u
  pub attributes : AreFieldsOf attrs e.attrs
  pub tag_fields : AreFieldsOf tags e.tags
  pub parents : e.parents ≡ set.empty
  pub indirect : e.indirect ≡ set.empty

-- Holds if all edges are in range, and the target of each was appended to the indirect ancestors of its source.
pub record PutsAbove (us : List EntityUID) (far : List Edge) (old new : List EntityParts) : Type 0 where
  pub rows : (es : List Edge) (xs : List EntityUID) → old ≡ placed (entity_parts_at us es [] []) 0 xs
      → new ≡ placed (entity_parts_at us es far []) 0 xs
  pub many : length new ≡ length old
  pub range : AllByRecursion (IsEdgeOf (length old) (length us)) far

-- Holds if a term is in range, and its field was appended to its row.
pub record PutsTerm (text : List ℕ) (ns : List Node) (t : Term) (old new : List EntityParts) : Type 0 where
  pub field : Field
  pub read : IsFieldOf text ns t field
  pub range : IsTermIn text ns (length old) t
  pub put : new ≡ changed_at field.of (with_field field.part field.key field.value) old

-- Holds if all terms are in range, and the field of each was appended to its row.
pub record PutsTerms (text : List ℕ) (ns : List Node) (ts : List Term) (old new : List EntityParts) : Type 0 where
  pub fields : List Field
  pub read : AllZip (IsFieldOf text ns) ts fields
  pub rows : (us : List EntityUID) (es far : List Edge) (xs : List EntityUID)
      → old ≡ placed (entity_parts_at us es far []) 0 xs → new ≡ placed (entity_parts_at us es far fields) 0 xs
  pub many : length new ≡ length old
  pub range : AllByRecursion (IsTermIn text ns (length old)) ts

-- Holds if w is a reason why the key in a part of a text cannot be copied.
abbrev pub IsNoKeyAt : List ℕ → Span → Reason → Type 0
IsNoKeyAt text at w =
    (w ≡ NoMemory) ⊎ (((w ≡ BadArgument) × (IsInside text at → ⊥)) ⊎ ((w ≡ NotUtf8) × IsNotUtf8At text at))

-- Holds if the nodes of a term are in range.
abbrev pub HasNodes : List Node → Term → Type 0
HasNodes ns t = (t.from ≤ t.to) × (t.to ≤ length ns)

-- Holds if p is the value of a term.
abbrev pub IsValueOf : List ℕ → List Node → Term → PartialValue → Type 0
IsValueOf text ns t p = HasNodes ns t × IsPartialReadAs text (nodes_of ns t) p

-- Holds if w is a reason why the value of a term cannot be decoded.
abbrev pub IsNoValueOf : List ℕ → List Node → Term → Reason → Type 0
IsNoValueOf text ns t w =
    ((w ≡ BadArgument) × (HasNodes ns t → ⊥)) ⊎ (HasNodes ns t × IsPartialRefused text (nodes_of ns t) w)

-- Holds if w is a reason why a term adds no field to one of n rows.
abbrev pub IsTermOut : List ℕ → List Node → ℕ → Term → Reason → Type 0
IsTermOut text ns n t w =
    (w ≡ NoMemory) ⊎ (((w ≡ BadArgument) × (IsTermIn text ns n t → ⊥)) ⊎ IsTermUnread text ns t w)

-- Holds if w is a reason why one of the terms adds no field to one of n rows.
abbrev pub IsSomeTermOut : List ℕ → List Node → ℕ → List Term → Reason → Type 0
IsSomeTermOut text ns n ts w = (k : ℕ) × (t : Term) × (slice_get ts k ≡ Some t) × IsTermOut text ns n t w

-- Holds if the rows are the parts of entities with the first n uids and with the parents in the edges, and the edges
-- are in range.
pub record AreFirst (us : List EntityUID) (n : ℕ) (es : List Edge) (rows : List EntityParts) : Type 0 where
  pub enough : n ≤ length us
  pub leading : AreEdgesOf n (length us) es
  pub said : rows ≡ placed (entity_parts_at us es [] []) 0 (take n us)

-- Holds if the rows are the parts of the entities of an input with these uids, and the input is in range.
pub record AreSaid (us : List EntityUID) (L : ListInput) (rows : List EntityParts) : Type 0 where
  pub enough : L.count ≤ length us
  pub leading : AreEdgesOf L.count (length us) L.edges
  pub above : AreEdgesOf L.count (length us) L.above
  pub terms : AllByRecursion (IsTermIn L.text L.nodes L.count) L.terms
  pub fields : List Field
  pub read : AllZip (IsFieldOf L.text L.nodes) L.terms fields
  pub said : rows ≡ placed (entity_parts_at us L.edges L.above fields) 0 (take L.count us)

-- Holds if w is a reason why the parts of the entities of an input cannot be collected.
abbrev pub IsUnsaid : List EntityUID → ListInput → Reason → Type 0
IsUnsaid us L w =
    IsUngathered (length us) L.count L.edges w ⊎ (IsSomeEdgeOut L.count (length us) L.above w
    ⊎ IsSomeTermOut L.text L.nodes L.count L.terms w)
