-- The descendants of a uid, and the shortest paths between two uids, over the parents of an entity map.
use Rattle.std.specs.Prelude.{◌≡◌, ◌↔◌, ◌≤◌, Bool, true, List, [], ◌∷◌, ◌++◌, length, Option}
use Rattle.std.specs.Option.{MatchOption}
use Rattle.std.specs.Set.{is_member}
use Rattle.std.specs.FinMap as finmap
use Rattle.cedar_graph.specs.Graph.{Path, Reach}
use Rattle.cedar_ids.specs.Name.{NameParts}
use Rattle.cedar_ids.specs.UidOf.{same_uid, uid_parts}
use Rattle.cedar_ids.specs.declared.entity.EntityUID.{EntityUID}
use Rattle.cedar_uid_sets.specs.UidSets.{Ascend}
use Rattle.cedar_entity_maps.specs.Plain.{EntityMap}
use Rattle.cedar_entity_maps.specs.laws.Indexes.{is_parent_at}

-- The graph of the parents in an entity map: there is an edge from each stored entity to each of its parents. Indirect
-- ancestors make no edge.
abbrev pub parent_graph : EntityMap → EntityUID → EntityUID → Bool
parent_graph D a b = is_parent_at (finmap.get D a) b

-- Holds if the list contains exactly the uids of the entities of D that reach `uid` over one or more parents, each once,
-- in ascending order.
pub record AreDescendants (D : EntityMap) (uid : EntityUID) (us : List EntityUID) : Type 0 where
  pub ascending : Ascend us
  pub members : (q : EntityUID) → (is_member same_uid us q ≡ true) ↔ Reach (parent_graph D) q uid

-- Holds if the uid has a type with this name.
abbrev pub HasType : NameParts → EntityUID → Type 0
HasType name q = (uid_parts q).name ≡ name

-- Holds if the list contains exactly the uids of the entities of D that have a type with this name and reach `uid` over
-- one or more parents, each once, in ascending order.
pub record AreDescendantsOfType (D : EntityMap) (uid : EntityUID) (name : NameParts) (us : List EntityUID)
    : Type 0 where
  pub ascending : Ascend us
  pub members : (q : EntityUID) → (is_member same_uid us q ≡ true) ↔ (Reach (parent_graph D) q uid × HasType name q)

-- Holds if the list consists of `from`, the uids between, and `to`, and each uid is a parent in D of the one before.
pub record IsPath (D : EntityMap) (from to : EntityUID) (us : List EntityUID) : Type 0 where
  pub between : List EntityUID
  pub is : us ≡ from ∷ between ++ to ∷ []
  pub edges : Path (parent_graph D) from between to

-- Holds if the list is a path from `from` to `to`, and no such path is shorter.
pub record IsShortestPath (D : EntityMap) (from to : EntityUID) (us : List EntityUID) : Type 0 where
  pub path : IsPath D from to us
  pub shortest : (vs : List EntityUID) → IsPath D from to vs → length us ≤ length vs

-- Holds if the result is a shortest path. If there is no path, the result must be `None`.
abbrev pub FindsPath : EntityMap → EntityUID → EntityUID → Option (List EntityUID) → Type 0
FindsPath D from to found = MatchOption found (Reach (parent_graph D) from to → ⊥) (IsShortestPath D from to)
