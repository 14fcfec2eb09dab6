-- Numbers for keys, and arcs between numbers.
use Rattle.std.specs.Prelude.{◌≡◌, ℕ, ◌<◌, ◌≤◌, ◌+◌, slice_get, slice_index, Bool, true, ◌&&◌, List, ◌++◌, Some, length}
use Rattle.std.specs.Set.{is_member}
use Rattle.cedar_components.specs.Reach.{HasPath}

-- Holds if the list is in ascending order; equal numbers are allowed.
abbrev pub Ascends : List ℕ → Type 0
Ascends xs = (j k : ℕ) → j < k → k < length xs → slice_index xs j ≤ slice_index xs k

-- Holds if there is an arc from number a to the number of key q.
abbrev pub HasArcTo : {K : Type 0} → (K → K → Bool) → List K → List ℕ → List ℕ → ℕ → K → Type 0
HasArcTo {K} eq keys from to a q = (k : ℕ) × (y : K) × (k < length from) × (slice_index from k ≡ a)
    × (slice_get keys (slice_index to k) ≡ Some y) × (eq q y ≡ true)

-- Holds if all arcs are edges between the keys of their numbers, and every edge of the first `done` keys is an arc. The
-- arcs are in the order of the numbers from which they lead.
pub record AreArcsOf {K : Type 0} (eq : K → K → Bool) (G : K → K → Bool) (done : ℕ) (keys : List K)
    (from to : List ℕ) : Type 0 where
  pub same_len : length to ≡ length from
  pub ascending : Ascends from
  pub from_in : (k : ℕ) → k < length from → slice_index from k < done
  pub to_in : (k : ℕ) → k < length from → slice_index to k < length keys
  pub sound : (k : ℕ) (x y : K) → k < length from → slice_get keys (slice_index from k) ≡ Some x
      → slice_get keys (slice_index to k) ≡ Some y → G x y ≡ true
  pub complete : (a : ℕ) (x q : K) → a < done → slice_get keys a ≡ Some x → G x q ≡ true
      → HasArcTo eq keys from to a q

-- Holds if `more` begins with `keys`.
abbrev pub IsPrefix : {K : Type 0} → List K → List K → Type 0
IsPrefix {K} keys more = (xs : List K) × (more ≡ keys ++ xs)

-- Holds if all arcs are edges between the keys of their numbers. Every edge of the keys before number a is an arc. So
-- is every edge from the key of a to a key that passes. The arcs are in the order of the numbers from which they lead.
pub record AreArcsIn {K : Type 0} (eq : K → K → Bool) (G : K → K → Bool) (a : ℕ) (keys : List K) (from to : List ℕ)
    (P : K → Bool) : Type 0 where
  pub same_len : length to ≡ length from
  pub ascending : Ascends from
  pub from_in : (k : ℕ) → k < length from → slice_index from k < a + 1
  pub to_in : (k : ℕ) → k < length from → slice_index to k < length keys
  pub sound : (k : ℕ) (x y : K) → k < length from → slice_get keys (slice_index from k) ≡ Some x
      → slice_get keys (slice_index to k) ≡ Some y → G x y ≡ true
  pub complete : (i : ℕ) (x q : K) → i < a → slice_get keys i ≡ Some x → G x q ≡ true → HasArcTo eq keys from to i q
  pub here : (q : K) → P q ≡ true → HasArcTo eq keys from to a q

-- Holds if every arc between two numbers is an edge between their keys.
abbrev pub AreEdges : {K : Type 0} → (K → K → Bool) → List K → (ℕ → ℕ → Type 0) → Type 0
AreEdges {K} G keys E = (a b : ℕ) (x y : K) → E a b → slice_get keys a ≡ Some x → slice_get keys b ≡ Some y
    → G x y ≡ true

-- Holds if the arcs are exactly the edges of the numbered keys.
pub record AreSameEdges {K : Type 0} (eq : K → K → Bool) (G : K → K → Bool) (keys : List K)
    (E : ℕ → ℕ → Type 0) : Type 0 where
  pub respects_eq : (x y z : K) → eq x y ≡ true → G x z ≡ G y z
  pub has_key : (a b : ℕ) → E a b → (k : K) × (slice_get keys b ≡ Some k)
  pub sound : AreEdges G keys E
  pub complete : (a : ℕ) (x q : K) → slice_get keys a ≡ Some x → G x q ≡ true → (b : ℕ) × (y : K) × E a b
      × (slice_get keys b ≡ Some y) × (eq q y ≡ true)

-- Holds if q is a key of the list.
abbrev pub HasNumber : {K : Type 0} → (K → K → Bool) → List K → K → Type 0
HasNumber {K} eq keys q = (i : ℕ) × (k : K) × (slice_get keys i ≡ Some k) × (eq q k ≡ true)

-- Holds if q is a key of the list before place n.
abbrev pub HasNumberBelow : {K : Type 0} → (K → K → Bool) → ℕ → List K → K → Type 0
HasNumberBelow {K} eq n keys q = (i : ℕ) × (k : K) × (i < n) × (slice_get keys i ≡ Some k) × (eq q k ≡ true)

-- Holds if q is the key of number x.
abbrev pub IsKeyAt : {K : Type 0} → (K → K → Bool) → List K → ℕ → K → Type 0
IsKeyAt {K} eq keys x q = (k : K) × (slice_get keys x ≡ Some k) × (eq k q ≡ true)

-- Holds if q is the key of a number that number x reaches.
abbrev pub ReachesKey : {K : Type 0} → (K → K → Bool) → List K → (ℕ → ℕ → Type 0) → ℕ → K → Type 0
ReachesKey {K} eq keys E x q = (y : ℕ) × (k : K) × HasPath E x y × (slice_get keys y ≡ Some k) × (eq q k ≡ true)

-- Holds if a is the key of number x, and b is the key of a number that x reaches.
abbrev pub IsRowEdge : {K : Type 0} → (K → K → Bool) → List K → (ℕ → ℕ → Type 0) → ℕ → K → K → Type 0
IsRowEdge {K} eq keys E x a b = (k : K) × (slice_get keys x ≡ Some k) × (eq k a ≡ true) × ReachesKey eq keys E x b

-- Holds if a is the key of a number below n, and b is the key of a number that it reaches.
abbrev pub IsRowEdgeBelow : {K : Type 0} → (K → K → Bool) → ℕ → List K → (ℕ → ℕ → Type 0) → K → K → Type 0
IsRowEdgeBelow eq n keys E a b = (x : ℕ) × (x < n) × IsRowEdge eq keys E x a b

-- The edges of the graph that begin at a key of the list.
abbrev pub near_graph : {K : Type 0} → (K → K → Bool) → (K → K → Bool) → List K → K → K → Bool
near_graph eq G ks a b = is_member eq ks a && G a b
