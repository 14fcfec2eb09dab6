-- The input store: the entities as callers gave them. Each has parents, and no indirect ancestors.
use Rattle.std.specs.Prelude.{◌≡◌, ◌↔◌, Bool, true, false, not, ◌&&◌, List, [], ◌∷◌, ◌++◌, map, Option, Some, None}
use Rattle.std.specs.Option.{IfSome}
use Rattle.std.specs.List.{AllByRecursion}
use Rattle.std.specs.Set.{is_member}
use Rattle.std.specs.FinSet as set
use Rattle.std.specs.FinMap as finmap
use Rattle.cedar_graph.specs.Graph.{Reach}
use Rattle.cedar_ids.specs.UidOf.{uid_order, same_uid}
use Rattle.cedar_ids.specs.declared.entity.EntityUID.{EntityUID}
use Rattle.cedar_entity.specs.Fields.{Fields}
use Rattle.cedar_uid_sets.specs.UidSets.{UidValues}

-- The attributes, tags and parents of an entity: all of its input except the uid.
pub record Parts : Type 0 where
  pub attrs : Fields
  pub tags : Fields
  pub parents : UidValues

-- An input entity: a uid and its parts.
pub record InputEntity : Type 0 where
  pub uid : EntityUID
  pub parts : Parts

-- An input store: a map from uids to parts, and whether the store is partial.
pub record InputStore : Type 0 where
  pub entities : finmap.FinMap uid_order Parts
  pub partial : Bool

-- The empty input store, which is not partial.
abbrev pub empty_input : InputStore
empty_input = record { entities = finmap.empty; partial = false }

-- The input entity with these parents, and without attributes and tags.
abbrev pub input_entity : EntityUID → List EntityUID → InputEntity
input_entity u ps = record { uid = u; parts = record { attrs = []; tags = []; parents = set.from_list ps } }

-- Whether there are parts, and b is one of their parents.
abbrev pub is_parent_in : Option Parts → EntityUID → Bool
is_parent_in None b = false
is_parent_in (Some p) b = set.contains p.parents b

-- The graph of the parents: there is an edge from each entity to each of its parents.
abbrev pub graph : InputStore → EntityUID → EntityUID → Bool
graph W a b = is_parent_in (finmap.get W.entities a) b

-- An input entity as an entry of a map.
abbrev pub entry_of : InputEntity → EntityUID × Parts
entry_of g = (g.uid, g.parts)

-- The parts of the first entity with the uid q in a list.
abbrev pub first : List InputEntity → EntityUID → Option Parts
first L q = finmap.find uid_order q (map entry_of L)

-- The input store W with entities added. A uid that is not in W gets the first entity of the list with that uid. The
-- entities of W do not change. (`from_entries` keeps the first of two entries with the same uid.)
abbrev pub added : InputStore → List InputEntity → InputStore
added W L = record { entities = finmap.from_entries (finmap.entries W.entities ++ map entry_of L); partial = W.partial }

-- The list in reverse order.
abbrev pub reversed : {X : Type 0} → List X → List X
reversed [] = []
reversed (x ∷ xs) = reversed xs ++ x ∷ []

-- The input store W, overwritten by a list. Each uid of the list gets the last entity of the list with that uid. The
-- other entities of W do not change.
abbrev pub overwritten : InputStore → List InputEntity → InputStore
overwritten W L = record {
  entities = finmap.from_entries (reversed (map entry_of L)
      ++ finmap.entries W.entities);
  partial = W.partial;
}

-- Whether a removal of the uids in the list removes u: u is in the list, and W contains it.
abbrev pub is_removed : InputStore → List EntityUID → EntityUID → Bool
is_removed W U u = is_member same_uid U u && finmap.contains_key W.entities u

-- The entry without the removed parents.
abbrev pub without : (EntityUID → Bool) → EntityUID × Parts → EntityUID × Parts
without removed e = (e.0, record e.1 { parents = set.retain e.1.parents (λ p. not (removed p)) })

-- The input store W after the removal of the uids in the list that it contains. They are removed as entities, and as
-- parents of the other entities. A uid without an entity in W remains a parent.
abbrev pub deleted : InputStore → List EntityUID → InputStore
deleted W U = record {
  entities = finmap.from_entries (map (without (is_removed W U))
      (finmap.entries (finmap.retain_keys W.entities (λ k. not (is_removed W U k)))));
  partial = W.partial;
}

-- Holds if the optional parts are absent, or equal to the parts of g.
abbrev pub AgreesWithFirst : Option Parts → InputEntity → Type 0
AgreesWithFirst o g = IfSome o (λ p. p ≡ g.parts)

-- Holds if g agrees with the existing entity with its uid.
--
-- If W has an entity with the uid, g must have the same attributes and tags. The parents of g must be exactly the uids
-- that the entity reaches in W. If W has none, g must have the same parts as the first entity of the list with the uid.
abbrev pub AgreesWith : InputStore → List InputEntity → Option Parts → InputEntity → Type 0
AgreesWith W L (Some p) g =
    (p.attrs ≡ g.parts.attrs) × (p.tags ≡ g.parts.tags)
    × ((q : EntityUID) → (set.contains g.parts.parents q ≡ true) ↔ Reach (graph W) g.uid q)
AgreesWith W L None g = AgreesWithFirst (first L g.uid) g

-- Holds if g agrees with the entity of W with its uid or, if there is none, with the first entity of the list with its
-- uid.
abbrev pub Agrees : InputStore → List InputEntity → InputEntity → Type 0
Agrees W L g = AgreesWith W L (finmap.get W.entities g.uid) g

-- Holds if each entity of the list agrees.
abbrev pub AllAgree : InputStore → List InputEntity → Type 0
AllAgree W L = AllByRecursion (Agrees W L) L

-- Holds if u is the uid of the first entity of the list that does not agree.
pub record FirstDiffers (W : InputStore) (L : List InputEntity) (u : EntityUID) : Type 0 where
  pub before : List InputEntity
  pub at : InputEntity
  pub after : List InputEntity
  pub place : L ≡ before ++ at ∷ after
  pub agree : AllByRecursion (Agrees W L) before
  pub differs : Agrees W L at → ⊥
  pub uid : at.uid ≡ u

-- Holds if a uid reaches itself over parents.
abbrev pub IsCyclic : InputStore → Type 0
IsCyclic W = (v : EntityUID) × Reach (graph W) v v
