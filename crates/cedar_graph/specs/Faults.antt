-- The meaning of the errors of the closure functions.
use Rattle.std.specs.Prelude.{◌≡◌, Bool, true, false, Result, Ok, Err, IsTrue, ⊤}
use Rattle.cedar_graph.specs.Graph.{IsClosed, Reach}
use Rattle.cedar_graph.specs.declared.err.HasCycle.{HasCycle}
use Rattle.cedar_graph.specs.declared.err.TcError.{TcError}
use Rattle.cedar_graph.specs.declared.err.TcError.TheVariants.{MissingTcEdge, HasCycle as CycleFound, Memory}

-- The key in a cycle error.
abbrev pub vertex_of : {K : Type 0} → HasCycle K → K
vertex_of e = e.vertex

-- Holds if the three keys of a missing edge satisfy P, or the key of a cycle satisfies Q, whichever the error is. An
-- allocation failure satisfies it always.
abbrev pub MatchFault : {K : Type 0} → TcError K → (K → K → K → Type 0) → (K → Type 0) → Type 0
MatchFault (MissingTcEdge e) P Q = P e.child e.parent e.grandparent
MatchFault (CycleFound e) P Q = Q (vertex_of e)
MatchFault Memory P Q = ⊤

-- Holds if the error is a cycle that was to be checked (`asked`), and its key passes the test and lies on a cycle. An
-- allocation failure satisfies it always. No other error does.
abbrev pub NamesCycleAt : {K : Type 0} → (asked : Bool) → (passes : K → Bool) → (K → K → Bool) → TcError K → Type 0
NamesCycleAt asked passes G e = MatchFault e (λ _ _ _. ⊥) (λ v. IsTrue asked × (passes v ≡ true) × Reach G v v)

-- P, unless the result is an allocation failure.
abbrev pub UnlessMemory : {T K : Type 0} → Result T (TcError K) → Type 0 → Type 0
UnlessMemory (Ok x) P = P
UnlessMemory (Err (MissingTcEdge e)) P = P
UnlessMemory (Err (CycleFound e)) P = P
UnlessMemory (Err Memory) P = ⊤

-- Holds if three keys show that the graph is not closed. There are edges from a to b and from b to c, but not from a to
-- c.
abbrev pub BreaksClosed : {K : Type 0} → (K → K → Bool) → K → K → K → Type 0
BreaksClosed G a b c = (G a b ≡ true) × (G b c ≡ true) × (G a c ≡ false)

-- Holds if the error has three keys that show that the graph is not closed. It also holds if the graph is closed and
-- the error names a key with an edge to itself. An allocation failure satisfies it always.
abbrev pub DeniesClosed : {K : Type 0} → (K → K → Bool) → TcError K → Type 0
DeniesClosed G e = MatchFault e (BreaksClosed G) (λ v. IsClosed G × (G v v ≡ true))
