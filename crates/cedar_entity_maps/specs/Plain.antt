-- The entity map of a store, and the plain store of an input store.
use Rattle.std.specs.Prelude.{◌≡◌, ◌↔◌, Bool, true, false, List, map}
use Rattle.std.specs.declared.alloc.Global.{Global}
use Rattle.std.specs.declared.rc.Rc.{Rc}
use Rattle.std.specs.List.{AllByRecursion}
use Rattle.std.specs.Option.{option_map, IfSome}
use Rattle.std.specs.FinSet as set
use Rattle.std.specs.FinMap as finmap
use Rattle.cedar_graph.specs.Graph.{Reach}
use Rattle.cedar_ids.specs.UidOf.{uid_order}
use Rattle.cedar_ids.specs.declared.entity.EntityUID.{EntityUID}
use Rattle.cedar_entity.specs.View.{EntityView, has_ancestor}
use Rattle.cedar_entity_maps.specs.InputStore.{InputStore, Parts, InputEntity, graph}

-- A map from uids to entities: the entity map of a store.
abbrev pub EntityMap : Type 0
EntityMap = finmap.FinMap uid_order EntityView

-- The empty entity map.
abbrev pub no_entities : EntityMap
no_entities = finmap.empty

-- A store as contracts describe it.
--
-- - `entities`: its entity map.
-- - `partial`: whether it is partial.
-- - `known_plain`: whether it knows that it is the plain store of some input store. Its edits then cost less. This field
--   does not affect any result.
pub record StoreView : Type 0 where
  pub entities : EntityMap
  pub partial : Bool
  pub known_plain : Bool

-- The entities of a list of shared entities.
abbrev pub entities_in : List (Rc EntityView Global) → List EntityView
entities_in list = map (λ r. r.value) list

-- The attributes, tags and parents of an entity.
abbrev pub parts_of : EntityView → Parts
parts_of e = record { attrs = e.attrs; tags = e.tags; parents = e.parents }

-- The entity without its indirect ancestors, as an input entity.
abbrev pub input_of : EntityView → InputEntity
input_of e = record { uid = e.uid; parts = parts_of e }

-- Holds if the entity has no indirect ancestors.
abbrev pub HasNoIndirect : EntityView → Type 0
HasNoIndirect e = (q : EntityUID) → set.contains e.indirect q ≡ false

-- Holds if no entity of the list has indirect ancestors.
abbrev pub HaveNoIndirect : List EntityView → Type 0
HaveNoIndirect L = AllByRecursion HasNoIndirect L

-- Holds if no parent is also an indirect ancestor.
abbrev pub HasDisjointParents : EntityView → Type 0
HasDisjointParents e = (x : EntityUID) → set.contains e.parents x ≡ true → set.contains e.indirect x ≡ false

-- Holds if each entity is stored under its own uid.
abbrev pub IsKeyed : EntityMap → Type 0
IsKeyed D = (q : EntityUID) → IfSome (finmap.get D q) (λ e. e.uid ≡ q)

-- Holds if S is the plain store of the input store W: its ancestors are exactly what the parents imply.
--
-- - `partial`: S is partial if and only if W is.
-- - `holds`: S and W have entities with the same uids, attributes, tags and parents.
-- - `keyed`: each entity is stored under its own uid.
-- - `reached`: the ancestors of each entity are exactly the uids that it reaches over one or more parents.
-- - `apart`: no parent of an entity is also one of its indirect ancestors.
-- - `acyclic`: no uid reaches itself over parents.
--
-- For example, let W have the entity `A` with the parent `B`, and the entity `B` with the parent `C`. Then in S the
-- entity `A` has the parent `B` and the indirect ancestor `C`. It does not matter whether W has an entity `C`.
pub record IsPlainStore (W : InputStore) (S : StoreView) : Type 0 where
  pub partial : S.partial ≡ W.partial
  pub holds : (q : EntityUID) → option_map parts_of (finmap.get S.entities q) ≡ finmap.get W.entities q
  pub keyed : IsKeyed S.entities
  pub reached : (q : EntityUID) → IfSome (finmap.get S.entities q) (λ e. (x : EntityUID) → (has_ancestor e x ≡ true)
      ↔ Reach (graph W) q x)
  pub apart : (q : EntityUID) → IfSome (finmap.get S.entities q) HasDisjointParents
  pub acyclic : (q : EntityUID) → Reach (graph W) q q → ⊥

-- An entity as an entry of a map.
abbrev pub keyed : EntityView → EntityUID × EntityView
keyed e = (e.uid, e)
