-- The steps and the results of a search over the edges of a graph.
use Rattle.std.specs.Prelude.{◌≡◌, ◌≤◌, ℕ, zero, suc, Bool, true, not, ◌&&◌, ◌||◌, List, [], ◌∷◌, ◌++◌, length}
use Rattle.std.specs.Prelude.{Option, Some, None, is_some}
use Rattle.std.specs.Option.{MatchOption, unwrap_or}
use Rattle.cedar_graph.specs.Graph.{Path, Reach}
use Rattle.cedar_ids.specs.Name.{NameParts, name_eq}
use Rattle.cedar_ids.specs.UidOf.{same_uid, uid_parts}
use Rattle.cedar_ids.specs.declared.entity.EntityUID.{EntityUID}
use Rattle.cedar_entity_maps.specs.Modes.{ancestry}
use Rattle.cedar_entity_maps.specs.Plain.{EntityMap}
use Rattle.cedar_queries.specs.Queries.{parent_graph}

-- Whether the uid has a type with this name.
abbrev pub has_type : NameParts → EntityUID → Bool
has_type name q = name_eq (uid_parts q).name name

-- Holds if there is an edge from a to a key that passes the test.
abbrev pub HasEdgeInto : {K : Type 0} → (K → K → Bool) → K → (K → Bool) → Type 0
HasEdgeInto {K} G a test = (p : K) × (G a p ≡ true) × (test p ≡ true)

-- Whether a path to `to` can go over q. In a plain store it can if q is `to` or has it as an ancestor. Otherwise it can go
-- over any uid.
abbrev pub can_lead : EntityMap → Bool → EntityUID → EntityUID → Bool
can_lead D plain to q = not plain || (same_uid q to || ancestry D q to)

-- The edges that a search for `to` follows.
abbrev pub search_graph : EntityMap → Bool → EntityUID → EntityUID → EntityUID → Bool
search_graph D plain to a b = parent_graph D a b && can_lead D plain to b

-- Holds for the effect of visiting the ends of some edges. The map leads from each visited key to the key from which it
-- was reached first: `f` before, and `g` afterwards. The keys that were new joined the list `n`, which made it `m`.
pub record Visits {K : Type 0} (edge : K → K → Bool) (f g : K → Option K) (n m : K → Bool) : Type 0 where
  pub stays : (v u : K) → f v ≡ Some u → g v ≡ Some u
  pub new : (v u : K) → f v ≡ None → g v ≡ Some u → edge u v ≡ true
  pub finds : (u v : K) → edge u v ≡ true → is_some (g v) ≡ true
  pub adds : (v : K) → m v ≡ (n v || (not (is_some (f v)) && is_some (g v)))

-- Holds if following the map back from v over n edges leads to `from`.
abbrev pub Leads : {K : Type 0} → (K → K → Bool) → K → (K → Option K) → ℕ → K → Type 0
Leads {K} G from f zero v = from ≡ v
Leads {K} G from f (suc n) v = (u : K) × (f v ≡ Some u) × (G u v ≡ true) × Leads G from f n u

-- The key from which v was reached first, if the map has one.
abbrev pub before : {K : Type 0} → (K → Option K) → K → K
before f v = unwrap_or (f v) v

-- Holds if the map can be followed back from v over n edges.
abbrev pub LeadsBack : {K : Type 0} → (K → Option K) → ℕ → K → Type 0
LeadsBack f zero v = Unit {0}
LeadsBack f (suc n) v = (is_some (f v) ≡ true) × LeadsBack f n (before f v)

-- The keys on the way that leads over n edges to v.
abbrev pub trace : {K : Type 0} → (K → Option K) → ℕ → K → List K
trace f zero v = v ∷ []
trace f (suc n) v = trace f n (before f v) ++ v ∷ []

-- Holds for the result of a search for `to`. If it is a number of keys, the map leads back from `to` to `from` over that
-- many keys between them, and no path has fewer. If it is `None`, there is no path.
abbrev pub EndsSearch : {K : Type 0} → (K → K → Bool) → K → K → (K → Option K) → Option ℕ → Type 0
EndsSearch {K} G from to f found = MatchOption found (Reach G from to → ⊥)
    (λ n. Leads G from f (suc n) to × ((xs : List K) → Path G from xs to → n ≤ length xs))
