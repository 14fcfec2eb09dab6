-- The writing into a map of nodes: edges to the keys of the numbers that a number reaches.
use Rattle.std.specs.Prelude.{◌≡◌, ℕ, ◌<◌, ◌≤◌, ◌⊎◌, Bool, true, false, List, length, slice_get, slice_index, Some}
use Rattle.std.specs.Prelude.{◌+◌, ◌++◌, ◌∷◌, [], is_some, Result, OnOk}
use Rattle.std.specs.List.{slice_range}
use Rattle.std.specs.Set.{is_member}
use Rattle.std.specs.HashMap.{HashMap, get}
use Rattle.cedar_components.specs.Reach.{AreInOrder, HasPath, HasArc, IsReach}
use Rattle.cedar_components.specs.declared.Reached.{Reached}
use Rattle.cedar_graph.specs.Ascending.{IsAscending, IsAscendingAt, RespectsEq}
use Rattle.cedar_graph.specs.Graph.{graph_of, KeepsEdges}
use Rattle.cedar_graph.specs.laws.Arcs.{IsKeyAt, IsRowEdgeBelow}
use Rattle.cedar_graph.specs.laws.Ranks.{AreRanked}
use Rattle.cedar_graph.specs.laws.Readings.{IsArc}
use Rattle.cedar_graph.specs.declared.arcs.Reading.{Reading}
use Rattle.cedar_graph.specs.declared.arcs.FixReading.{FixReading}
use Rattle.cedar_graph.specs.declared.close.Known.{Known}
use Rattle.cedar_graph.specs.declared.close.OrderedReach.{OrderedReach}
use Rattle.cedar_graph.specs.declared.transitive_closure.Work.{Work}

abbrev pub AreAtMost : ℕ → List ℕ → Type 0
AreAtMost n xs = (y : ℕ) → y < length xs → slice_index xs y ≤ n

abbrev pub AllBelow : ℕ → List ℕ → Type 0
AllBelow n xs = (j : ℕ) → j < length xs → slice_index xs j < n

-- Holds if the arcs before place e lead from numbers below x, and the others do not.
pub record StartsAt (from : List ℕ) (x e : ℕ) : Type 0 where
  pub before : (k : ℕ) → k < e → slice_index from k < x
  pub after : (k : ℕ) → e ≤ k → k < length from → x ≤ slice_index from k

-- Holds if the known numbers are exactly the targets of number x.
pub record KnowsTargets (from to : List ℕ) (x : ℕ) (known : Known) : Type 0 where
  pub only : (y : ℕ) → y < length known.marks.items → slice_index known.marks.items y ≡ known.mark → HasArc from to x y
  pub all : (y : ℕ) → HasArc from to x y → slice_index known.marks.items y ≡ known.mark

-- Holds if z is the only known number.
pub record IsOnlyKnown (known : Known) (z : ℕ) : Type 0 where
  pub only : (y : ℕ) → y < length known.marks.items → slice_index known.marks.items y ≡ known.mark → y ≡ z
  pub marked : slice_index known.marks.items z ≡ known.mark

-- Holds if the last known number is the only one, whenever one arc leads to known numbers.
abbrev pub KnowsLast : Known → Type 0
KnowsLast known = known.count ≡ 1 → IsOnlyKnown known known.last

-- Holds if q is the key of one of the first n numbers of the list.
abbrev pub IsKeyBelow : {K : Type 0} → (K → K → Bool) → List K → List ℕ → ℕ → K → Type 0
IsKeyBelow {K} eq keys numbers n q = (j : ℕ) × (k : K) × (j < n) × (slice_get keys (slice_index numbers j) ≡ Some k)
    × (eq q k ≡ true)

-- Holds if q is the key of a known number.
abbrev pub IsKnown : {K : Type 0} → (K → K → Bool) → List K → Known → K → Type 0
IsKnown {K} eq keys known q = (y : ℕ) × (k : K) × (slice_get keys y ≡ Some k)
    × (slice_index known.marks.items y ≡ known.mark) × (eq q k ≡ true)

-- Holds if each number has a mark, and the key of number x has edges exactly to the keys of the known numbers.
pub record KnowsEdges {K : Type 0} (eq : K → K → Bool) (G : K → K → Bool) (keys : List K) (x : ℕ) (known : Known)
    : Type 0 where
  pub len : length known.marks.items ≡ length keys
  pub edges : (y : ℕ) (k l : K) → slice_get keys x ≡ Some k → slice_get keys y ≡ Some l
      → slice_index known.marks.items y ≡ known.mark → G k l ≡ true
  pub all : (k q : K) → slice_get keys x ≡ Some k → G k q ≡ true → IsKnown eq keys known q

-- Holds if the row contains only keys of the first n numbers, and contains all of these except the keys of known
-- numbers.
pub record IsRowTo {K : Type 0} (eq : K → K → Bool) (keys : List K) (numbers : List ℕ) (n : ℕ) (known : Known)
    (row : List K) : Type 0 where
  pub only : (q : K) → is_member eq row q ≡ true → IsKeyBelow eq keys numbers n q
  pub all : (q : K) → IsKeyBelow eq keys numbers n q → (is_member eq row q ≡ true) ⊎ IsKnown eq keys known q
  pub new : (q : K) → is_member eq row q ≡ true → IsKnown eq keys known q → ⊥

-- Holds if the row contains exactly the keys of the numbers, except the keys of known numbers.
abbrev pub IsRowOf : {K : Type 0} → (K → K → Bool) → List K → List ℕ → Known → List K → Type 0
IsRowOf eq keys numbers = IsRowTo eq keys numbers (length numbers)

-- Holds if a key was appended to a row, unless it was known.
pub record TakesKey {K : Type 0} (eq : K → K → Bool) (key : K) (known : Bool) (old new : List K) : Type 0 where
  pub stays : (q : K) → is_member eq old q ≡ true → is_member eq new q ≡ true
  pub only : (q : K) → is_member eq new q ≡ true
      → (is_member eq old q ≡ true) ⊎ ((eq q key ≡ true) × (known ≡ false))
  pub has : (q : K) → eq q key ≡ true → (is_member eq new q ≡ true) ⊎ (known ≡ true)

-- Holds if a copy of a key was appended to a row, or nothing.
abbrev pub TakesInOrder : {K : Type 0} → (K → K → Bool) → K → List K → List K → Type 0
TakesInOrder {K} eq key old new = (new ≡ old) ⊎ ((copy : K) × (eq key copy ≡ true) × (new ≡ old ++ copy ∷ []))

-- Holds if a row ascends, and each of its keys precedes the keys of the numbers from place n on.
pub record KeepsOrderBy {K : Type 0} (precedes : K → K → Bool) (keys : List K) (numbers : List ℕ) (n : ℕ)
    (row : List K) : Type 0 where
  pub ascends : IsAscending precedes row
  pub before : (i m : ℕ) (x y : K) → slice_get row i ≡ Some x → n ≤ m → m < length numbers
      → slice_get keys (slice_index numbers m) ≡ Some y → precedes x y ≡ true

-- Holds if `KeepsOrderBy` holds for each order that respects the equality and in which the keys of the numbers ascend.
pub record KeepsOrder {K : Type 0} (eq : K → K → Bool) (keys : List K) (numbers : List ℕ) (n : ℕ) (row : List K)
    : Type 0 where
  pub by : (precedes : K → K → Bool) → RespectsEq eq precedes → IsAscendingAt precedes keys numbers
      → KeepsOrderBy precedes keys numbers n row

-- Holds if q is the key of a number from place i up to place j.
abbrev pub IsKeyWithin : {K : Type 0} → (K → K → Bool) → List K → List ℕ → ℕ → ℕ → K → Type 0
IsKeyWithin {K} eq keys numbers i j q = (n : ℕ) × (k : K) × (i ≤ n) × (n < j)
    × (slice_get keys (slice_index numbers n) ≡ Some k) × (eq q k ≡ true)

-- Holds if the keys of the numbers from place i up to place j were appended to a row.
pub record TakesRun {K : Type 0} (eq : K → K → Bool) (keys : List K) (numbers : List ℕ) (i j : ℕ) (old new : List K)
    : Type 0 where
  pub stays : (q : K) → is_member eq old q ≡ true → is_member eq new q ≡ true
  pub only : (q : K) → is_member eq new q ≡ true → (is_member eq old q ≡ true) ⊎ IsKeyWithin eq keys numbers i j q
  pub has : (q : K) → IsKeyWithin eq keys numbers i j q → is_member eq new q ≡ true

abbrev pub IsAt : {K : Type 0} → (K → K → Bool) → K → K → Type 0
IsAt eq at q = eq at q ≡ true

-- Holds if a is this key, and b is a key of the row.
abbrev pub IsEdgeTo : {K : Type 0} → (K → K → Bool) → K → List K → K → K → Type 0
IsEdgeTo eq at row a b = (eq at a ≡ true) × (is_member eq row b ≡ true)

-- Holds if a node with these edges has no edge to a key of the row.
abbrev pub AreNewTo : {K : Type 0} → (K → K → Bool) → (K → Bool) → List K → Type 0
AreNewTo {K} eq edges row = (q : K) → is_member eq row q ≡ true → edges q ≡ false

-- Holds if q is the key of a number to fix.
abbrev pub IsToFix : {K S H : Type 0} → (K → K → Bool) → FixReading K S H → K → Type 0
IsToFix eq read q = (x : ℕ) × (x < read.fixed) × IsKeyAt eq read.reading.keys.keys x q

-- Holds if a is the key of a number to fix, and b is the key of a number that it reaches.
abbrev pub IsFixEdge : {K S H : Type 0} → (K → K → Bool) → FixReading K S H → K → K → Type 0
IsFixEdge eq read = IsRowEdgeBelow eq read.fixed read.reading.keys.keys (IsArc read.reading)

-- Holds if `reached` lists the numbers that each number of the reading reaches.
abbrev pub IsReachOf : {K S H : Type 0} → Reading K S H → Reached → Type 0
IsReachOf s reached = IsReach (IsArc s) (length s.keys.keys) reached.component.items reached.start.items
    reached.lists.items

-- Holds if the places of the numbers are those of the keys in an order in which the keys at the first `limit` places
-- ascend, and each list is in the order of its places if it is marked as such.
pub record IsOrderedBy {K : Type 0} (precedes : K → K → Bool) (keys : List K) (reached : OrderedReach) : Type 0 where
  pub ranked : AreRanked precedes keys reached.limit reached.numbers.places.items
  pub ordered : reached.numbers.ordered ≡ true → AreInOrder reached.numbers.places.items reached.numbers.start.items
      reached.numbers.lists.items

-- The list of the component of number x.
abbrev pub listed : Reached → ℕ → List ℕ
listed r x = slice_range r.lists.items (slice_index r.start.items (slice_index r.component.items x))
    (slice_index r.start.items (slice_index r.component.items x + 1))

-- Holds if no number x below n reaches itself for which there is an arc to x from x or a lower number.
abbrev pub NoneGoesBack : (ℕ → ℕ → Type 0) → ℕ → Type 0
NoneGoesBack E n = (w x : ℕ) → w ≤ x → x < n → E w x → HasPath E x x → ⊥

-- Holds if no number below n to which an arc leads reaches itself.
abbrev pub NoneLoops : (ℕ → ℕ → Type 0) → ℕ → Type 0
NoneLoops E n = (w x : ℕ) → x < n → E w x → HasPath E x x → ⊥

-- Holds if each target of a number below n has a mark.
abbrev pub AreMarked : (ℕ → ℕ → Type 0) → ℕ → List ℕ → Type 0
AreMarked E n marks = (w y : ℕ) → w < n → E w y → 0 < slice_index marks y

-- Holds for the effect of writing. Only nodes at keys that satisfy A change, no edge is removed, and each added edge
-- satisfies X. After `Ok` all edges from nodes of the map that satisfy X are there.
pub record Writes {K V S T E : Type 0} (eq : K → K → Bool) (edges : V → K → Bool) (A : K → Type 0)
    (X : K → K → Type 0) (old new : HashMap K V S) (result : Result T E) : Type 0 where
  pub alone : (q : K) → (A q → ⊥) → get eq new q ≡ get eq old q
  pub stays : KeepsEdges (graph_of eq edges old) (graph_of eq edges new)
  pub only : (a b : K) → graph_of eq edges new a b ≡ true → (graph_of eq edges old a b ≡ true) ⊎ X a b
  pub ok : OnOk result ((a b : K) → X a b → is_some (get eq old a) ≡ true → graph_of eq edges new a b ≡ true)

-- Holds if the map has a node at each key that satisfies A.
abbrev pub HasNodes : {K V S : Type 0} → (K → K → Bool) → HashMap K V S → (K → Type 0) → Type 0
HasNodes {K} eq nodes A = (q : K) → A q → is_some (get eq nodes q) ≡ true

-- Holds if n is at most `whole`, and equal to it under the condition.
pub record CountsFound (whole : ℕ) (condition : Type 0) (n : ℕ) : Type 0 where
  pub most : n ≤ whole
  pub all : condition → n ≡ whole

-- The counted work on the nodes of the numbers to fix.
pub record CountsWork {K V S H : Type 0} (eq : K → K → Bool) (read : FixReading K S H) (nodes : HashMap K V S)
    (work : Work) : Type 0 where
  pub reads : work.reads ≡ read.reading.reads
  pub closings : CountsFound read.fixed (HasNodes eq nodes (IsToFix eq read)) work.closings

-- Holds if each number has a mark, and the mark of a target of the first n arcs is `true`.
pub record HasMarks {K S H : Type 0} (s : Reading K S H) (n : ℕ) (marks : List Bool) : Type 0 where
  pub len : length marks ≡ length s.keys.keys
  pub led : (k : ℕ) → k < n → slice_get marks (slice_index s.to.items k) ≡ Some true

-- Holds if q is the key of a number to fix that reaches itself.
abbrev pub IsKeyOfLoop : {K S H : Type 0} → (K → K → Bool) → FixReading K S H → K → Type 0
IsKeyOfLoop {K} eq read q = (x : ℕ) × (k : K) × (x < read.fixed) × (slice_get read.reading.keys.keys x ≡ Some k)
    × (eq k q ≡ true) × HasPath (IsArc read.reading) x x
