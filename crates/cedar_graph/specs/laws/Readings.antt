-- The reading of a map of nodes: numbers for keys, and arcs between numbers.
use Rattle.std.specs.Prelude.{◌≡◌, ℕ, List, ◌<◌, ◌≤◌, ◌+◌, ◌^◌, ◌++◌, ◌∷◌, [], ◌⊎◌, Bool, true, length, take, slice_get}
use Rattle.std.specs.Prelude.{Some, IsSomeAnd, is_some}
use Rattle.std.specs.Borrow.{Bor}
use Rattle.std.specs.Set.{is_member}
use Rattle.std.specs.HashMap.{HashMap, get, hash_map_len}
use Rattle.std.specs.HashSet.{HashSet, contains, hash_set_len}
use Rattle.indexmap.specs.IndexSet.{IndexSet, IsUnique}
use Rattle.cedar_components.specs.Reach.{HasArc, AreArcs}
use Rattle.cedar_graph.specs.Calls.{NeedsEdges}
use Rattle.cedar_graph.specs.Graph.{graph_of}
use Rattle.cedar_graph.specs.laws.Arcs.{AreArcsOf, AreEdges, AreSameEdges, Ascends, HasNumber, HasNumberBelow}
use Rattle.cedar_graph.specs.laws.Arcs.{IsPrefix, near_graph}
use Rattle.cedar_graph.specs.declared.arcs.Reading.{Reading}
use Rattle.cedar_graph.specs.declared.arcs.FixReading.{FixReading}

-- Holds if key has number i in the new set. The new set begins with the old one, and has at most one further key, which
-- equals `key`.
pub record HasPut {K S : Type 0} (eq : K → K → Bool) (key : K) (old new : IndexSet K S) (i : ℕ) : Type 0 where
  pub unique : IsUnique eq new
  pub found : IsSomeAnd (slice_get new.keys i) (λ k. eq key k ≡ true)
  pub one : length new.keys ≤ length old.keys + 1
  pub fresh : (j : ℕ) (k : K) → slice_get new.keys j ≡ Some k → (slice_get old.keys j ≡ Some k) ⊎ (eq key k ≡ true)
  pub more : IsPrefix old.keys new.keys

-- Holds if an arc from one number to another was read.
abbrev pub IsArc : {K S H : Type 0} → Reading K S H → ℕ → ℕ → Type 0
IsArc s = HasArc s.from.items s.to.items

-- Holds if one more arc was read, from number a to the number b of the key.
pub record ReadsArc {K S H : Type 0} (eq : K → K → Bool) (a : ℕ) (key : K) (old new : Reading K S H)
    (b : ℕ) : Type 0 where
  pub unique : IsUnique eq new.keys
  pub keys : IsPrefix old.keys.keys new.keys.keys
  pub from : new.from.items ≡ old.from.items ++ a ∷ []
  pub to : new.to.items ≡ old.to.items ++ b ∷ []
  pub found : (k : K) × (slice_get new.keys.keys b ≡ Some k) × (eq key k ≡ true)
  pub fresh : (i : ℕ) → length old.keys.keys ≤ i → i < length new.keys.keys → i ≡ b

-- Holds if the keys are different, all arcs are edges between their keys, and every edge of the first `done` keys is an
-- arc.
pub record IsReadBelow {K S H : Type 0} (eq : K → K → Bool) (G : K → K → Bool) (done : ℕ)
    (s : Reading K S H) : Type 0 where
  pub unique : IsUnique eq s.keys
  pub arcs : AreArcsOf eq G done s.keys.keys s.from.items s.to.items

-- Whether some arc leads to number i. The list `to` has the numbers to which arcs lead.
abbrev pub IsTarget : List ℕ → ℕ → Type 0
IsTarget to i = (k : ℕ) × (slice_get to k ≡ Some i)

-- Holds if the keys keep their numbers and the arcs their places, at most n more nodes were read, and an arc leads to
-- each new number.
pub record ReadsOn {K S H : Type 0} (n : ℕ) (old new : Reading K S H) : Type 0 where
  pub keys : IsPrefix old.keys.keys new.keys.keys
  pub reads : new.reads ≤ old.reads + n
  pub arcs : IsPrefix old.to.items new.to.items
  pub targets : (i : ℕ) → length old.keys.keys ≤ i → i < length new.keys.keys → IsTarget new.to.items i

-- Holds if the node was appended under its key, unless it has no edges. At most one key and one node are added, at the
-- same place.
pub record PutsEdged {K V S : Type 0} (eq : K → K → Bool) (edges : V → K → Bool) (key : K) (node : V)
    (old new : IndexSet K S) (rows more : List (Bor V)) : Type 0 where
  pub unique : IsUnique eq new
  pub keys : IsPrefix old.keys new.keys
  pub one : length new.keys ≤ length old.keys + 1
  pub len : length more ≡ length new.keys
  pub has : (b : K) → edges node b ≡ true → HasNumber eq new.keys key
  pub nodes : (i : ℕ) (k : K) (r : Bor V) → slice_get new.keys i ≡ Some k → slice_get more i ≡ Some r
      → ((slice_get old.keys i ≡ Some k) × (slice_get rows i ≡ Some r)) ⊎ ((eq key k ≡ true) × (r.now ≡ node))

-- Holds if the node at each place is the node of the map at the key with the same place.
abbrev pub AreNodesAt : {K V S : Type 0} → (K → K → Bool) → HashMap K V S → List K → List (Bor V) → Type 0
AreNodesAt {K} {V} eq nodes keys rows = (i : ℕ) (k : K) (r : Bor V) → slice_get keys i ≡ Some k
    → slice_get rows i ≡ Some r → get eq nodes k ≡ Some r.now

-- Holds if the arcs of one more number were read, in each graph in which its key has these edges. The read is counted
-- unless the counter is full.
pub record ReadsNode {K S H : Type 0} (eq : K → K → Bool) (row : K → Bool) (a : ℕ) (old new : Reading K S H)
    : Type 0 where
  pub unique : IsUnique eq new.keys
  pub on : ReadsOn 1 old new
  pub counts : old.reads + 1 < 2 ^ 64 → new.reads ≡ old.reads + 1
  pub read : (G : K → K → Bool) → IsReadBelow eq G a old
      → ((x q : K) → slice_get old.keys.keys a ≡ Some x → row q ≡ G x q) → IsReadBelow eq G (a + 1) new

-- Holds if the arcs of these nodes were read, in each graph in which the first keys have the edges of the nodes.
pub record ReadsNodes {K V S H : Type 0} (eq : K → K → Bool) (edges : V → K → Bool) (rows : List (Bor V))
    (old new : Reading K S H) : Type 0 where
  pub on : ReadsOn (length rows) old new
  pub counts : old.reads + length rows < 2 ^ 64 → new.reads ≡ old.reads + length rows
  pub read : (G : K → K → Bool) → ((i : ℕ) (x q : K) (r : Bor V) → slice_get old.keys.keys i ≡ Some x
      → slice_get rows i ≡ Some r → edges r.now q ≡ G x q) → IsReadBelow eq G (length rows) new

-- Holds if the keys are different and all arcs are edges of the graph between numbered keys. Every edge of the first
-- `fixed` keys is an arc. The arcs are in the order of the numbers from which they lead.
pub record AreRead {K S H : Type 0} (eq : K → K → Bool) (G : K → K → Bool) (read : FixReading K S H) : Type 0 where
  pub unique : IsUnique eq read.reading.keys
  pub arcs : AreArcs read.reading.from.items read.reading.to.items (length read.reading.keys.keys)
  pub ascending : Ascends read.reading.from.items
  pub fixed : read.fixed ≤ length read.reading.keys.keys
  pub edges : AreEdges G read.reading.keys.keys (IsArc read.reading)
  pub complete : (a : ℕ) (x q : K) → a < read.fixed → slice_get read.reading.keys.keys a ≡ Some x → G x q ≡ true
      → (b : ℕ) × (y : K) × IsArc read.reading a b × (slice_get read.reading.keys.keys b ≡ Some y) × (eq q y ≡ true)

-- Holds if the arcs are exactly the edges of the map. The keys with edges are to be fixed, and each of them was read
-- and counted.
pub record ReadsAll {K V S H : Type 0} (eq : K → K → Bool) (edges : V → K → Bool) (nodes : HashMap K V S)
    (read : FixReading K S H) : Type 0 where
  pub unique : IsUnique eq read.reading.keys
  pub arcs : AreArcs read.reading.from.items read.reading.to.items (length read.reading.keys.keys)
  pub ascending : Ascends read.reading.from.items
  pub fixed : read.fixed ≤ length read.reading.keys.keys
  pub same : AreSameEdges eq (graph_of eq edges nodes) read.reading.keys.keys (IsArc read.reading)
  pub all : (q b : K) → graph_of eq edges nodes q b ≡ true → HasNumberBelow eq read.fixed read.reading.keys.keys q
  pub there : (i : ℕ) (k : K) → i < read.fixed → slice_get read.reading.keys.keys i ≡ Some k
      → is_some (get eq nodes k) ≡ true
  pub few : read.fixed ≤ hash_map_len nodes
  pub reads : read.reading.reads ≡ read.fixed

-- Holds if the arcs are exactly the edges of the keys to fix, which come first, and of the keys to which these have an
-- edge.
pub record ReadsFix {K V S F H : Type 0} (eq : K → K → Bool) (edges : V → K → Bool) (fix : HashSet K F)
    (nodes : HashMap K V S) (read : FixReading K S H) : Type 0 where
  pub unique : IsUnique eq read.reading.keys
  pub arcs : AreArcs read.reading.from.items read.reading.to.items (length read.reading.keys.keys)
  pub ascending : Ascends read.reading.from.items
  pub fixed : read.fixed ≤ length read.reading.keys.keys
  pub same : AreSameEdges eq (near_graph eq (graph_of eq edges nodes) (take read.near read.reading.keys.keys))
      read.reading.keys.keys (IsArc read.reading)
  pub len : read.fixed ≤ hash_set_len fix
  pub least : hash_set_len fix ≤ read.fixed
  pub all : (q : K) → contains eq fix q ≡ true → HasNumberBelow eq read.fixed read.reading.keys.keys q
  pub only : (i : ℕ) (k : K) → i < read.fixed → slice_get read.reading.keys.keys i ≡ Some k → contains eq fix k ≡ true
  pub near : (x u : K) → contains eq fix x ≡ true → graph_of eq edges nodes x u ≡ true
      → is_member eq (take read.near read.reading.keys.keys) u ≡ true
  pub near_fixed : (x : K) → contains eq fix x ≡ true → is_member eq (take read.near read.reading.keys.keys) x ≡ true
  pub only_near : (i : ℕ) (k : K) → i < read.near → slice_get read.reading.keys.keys i ≡ Some k
      → NeedsEdges (contains eq fix) (graph_of eq edges nodes) k
  pub within : read.near ≤ length read.reading.keys.keys
  pub reads : read.reading.reads ≤ read.near
