-- A graph as a test on two keys, and the graph of a map of nodes.
use Rattle.std.specs.Prelude.{◌≡◌, ◌↔◌, Bool, true, false, ◌||◌, List, [], ◌∷◌, Option, Some, None}
use Rattle.std.specs.Option.{option_map, IfSome}
use Rattle.std.specs.HashMap.{HashMap, get, keys}

-- Whether there is a node, and it has an edge to b.
abbrev pub edge_at : {V K : Type 0} → (V → K → Bool) → Option V → K → Bool
edge_at edges None b = false
edge_at edges (Some v) b = edges v b

-- The graph of a map of nodes: whether the map has a node at a, and this node has an edge to b.
abbrev pub graph_of : {K V S : Type 0} → (K → K → Bool) → (V → K → Bool) → HashMap K V S → K → K → Bool
graph_of eq edges m a b = edge_at edges (get eq m a) b

-- Holds if there is an edge from each key to the next, on the way from a over the keys of the list to b.
abbrev pub Path : {K : Type 0} → (K → K → Bool) → K → List K → K → Type 0
Path G a [] b = G a b ≡ true
Path G a (x ∷ xs) b = (G a x ≡ true) × Path G x xs b

-- Holds if b is reached from a over one or more edges.
abbrev pub Reach : {K : Type 0} → (K → K → Bool) → K → K → Type 0
Reach {K} G a b = (xs : List K) × Path G a xs b

-- Holds if a has an edge to c whenever a has an edge to b and b has an edge to c.
abbrev pub IsClosed : {K : Type 0} → (K → K → Bool) → Type 0
IsClosed {K} G = (a b c : K) → G a b ≡ true → G b c ≡ true → G a c ≡ true

-- Holds if no key has an edge to itself.
abbrev pub HasNoLoop : {K : Type 0} → (K → K → Bool) → Type 0
HasNoLoop {K} G = (a : K) → G a a ≡ false

-- Holds if the graph is closed and no key has an edge to itself.
abbrev pub IsClosedWithoutLoop : {K : Type 0} → (K → K → Bool) → Type 0
IsClosedWithoutLoop G = IsClosed G × HasNoLoop G

-- Holds if no key lies on a cycle, that is, no key reaches itself.
abbrev pub HasNoCycle : {K : Type 0} → (K → K → Bool) → Type 0
HasNoCycle {K} G = (a : K) → Reach G a a → ⊥

-- Holds if no key that passes the test lies on a cycle.
abbrev pub HasNoCycleAt : {K : Type 0} → (K → Bool) → (K → K → Bool) → Type 0
HasNoCycleAt {K} passes G = (a : K) → passes a ≡ true → Reach G a a → ⊥

-- Holds if the new set contains the old one, and every other member of it is one of the extra keys.
pub record Grows {K : Type 0} (old new extra : K → Bool) : Type 0 where
  pub stays : (q : K) → old q ≡ true → new q ≡ true
  pub only : (q : K) → new q ≡ true → (old q || extra q) ≡ true

-- Holds if each old edge is an edge of the new graph.
abbrev pub KeepsEdges : {K : Type 0} → (old new : K → K → Bool) → Type 0
KeepsEdges {K} old new = (a b : K) → old a b ≡ true → new a b ≡ true

-- Holds if each edge of the new graph leads to a key that was reached over old edges.
abbrev pub AddsOnlyReached : {K : Type 0} → (old new : K → K → Bool) → Type 0
AddsOnlyReached {K} old new = (a b : K) → new a b ≡ true → Reach old a b

-- Holds if the new graph reaches from each key the same keys as the old graph.
abbrev pub ReachesSame : {K : Type 0} → (old new : K → K → Bool) → Type 0
ReachesSame {K} old new = (a b : K) → Reach new a b ↔ Reach old a b

-- Holds if the new graph is the closure of the old one. It has an edge from a to b exactly if the old graph reaches b
-- from a.
abbrev pub IsClosure : {K : Type 0} → (old new : K → K → Bool) → Type 0
IsClosure {K} old new = (a b : K) → (new a b ≡ true) ↔ Reach old a b

-- Holds if each key that is not to be fixed has an edge to every key that it reaches.
abbrev pub IsTrusted : {K : Type 0} → (K → Bool) → (K → K → Bool) → Type 0
IsTrusted {K} fix G = (a b : K) → fix a ≡ false → Reach G a b → G a b ≡ true

-- Holds if each map key is its node's key.
abbrev pub KeysMatch : {K V S : Type 0} → (K → K → Bool) → (V → K) → HashMap K V S → Type 0
KeysMatch {K} eq key m = (q : K) → IfSome (get eq m q) (λ v. eq q (key v) ≡ true)

-- Holds if the map has the same keys as before, and the node at each key has the same key and the same `rest`.
pub record KeepsNodes {K V R S : Type 0} (eq : K → K → Bool) (key : V → K) (rest : V
    → R) (old new : HashMap K V S) : Type 0 where
  pub keys_stay : keys new ≡ keys old
  pub node_keys : (q : K) → option_map key (get eq new q) ≡ option_map key (get eq old q)
  pub rests : (q : K) → option_map rest (get eq new q) ≡ option_map rest (get eq old q)
