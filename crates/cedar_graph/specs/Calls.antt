-- The effect of a closure function: what does not change in the map, the edges that it adds, and its errors.
use Rattle.std.specs.Prelude.{◌≡◌, ◌⊎◌, ℕ, ◌≤◌, Bool, true, false, List, length, slice_get, Some, Result, IsTrue, OnOk, IfErr}
use Rattle.std.specs.List.{IsDistinct}
use Rattle.std.specs.Option.{is_some}
use Rattle.std.specs.Set.{is_member}
use Rattle.std.specs.HashMap.{HashMap, get}
use Rattle.std.specs.HashSet.{HashSet, contains}
use Rattle.cedar_graph.specs.Graph.{graph_of, KeepsNodes, KeepsEdges, AddsOnlyReached, ReachesSame, IsClosure}
use Rattle.cedar_graph.specs.Graph.{IsTrusted, HasNoCycle, HasNoCycleAt}
use Rattle.cedar_graph.specs.Faults.{MatchFault, NamesCycleAt, UnlessMemory}
use Rattle.cedar_graph.specs.declared.err.TcError.{TcError}

-- Holds if the map has the same keys as before, and the node at each key has the same key, `rest` and `kept` (see
-- `TCNode`).
pub record KeepsAll {K V R T S : Type 0} (eq : K → K → Bool) (key : V → K) (rest : V → R) (stays : V → T)
    (old new : HashMap K V S) : Type 0 where
  pub rests : KeepsNodes eq key rest old new
  pub kept : KeepsNodes eq key stays old new

-- Holds if every old edge is still there, and every new edge leads to a key that was reached over the old edges.
pub record OnlyAdds {K : Type 0} (old new : K → K → Bool) : Type 0 where
  pub stays : KeepsEdges old new
  pub only : AddsOnlyReached old new

-- Holds for the effect of `compute_tc`. Edges are only added, and `same` states that the same keys are reached as
-- before. Unless an allocation failed, the new graph is the closure of the old one, even if a cycle is reported. An
-- `Ok` means that the graph has no cycle, if that was to be checked (`asked`). A reported cycle was to be checked, and
-- its key is in the map and lies on a cycle.
pub record Closes {K V S T : Type 0} (eq : K → K → Bool) (edges : V → K → Bool) (asked : Bool)
    (old new : HashMap K V S) (result : Result T (TcError K)) : Type 0 where
  pub adds : OnlyAdds (graph_of eq edges old) (graph_of eq edges new)
  -- The new graph reaches the same keys as the old one.
  pub same : ReachesSame (graph_of eq edges old) (graph_of eq edges new)
  pub closed : UnlessMemory result (IsClosure (graph_of eq edges old) (graph_of eq edges new))
  -- Closing the new graph again changes no edge.
  pub once : UnlessMemory result (IsClosure (graph_of eq edges new) (graph_of eq edges new))
  pub ok : OnOk result (IsTrue asked → HasNoCycle (graph_of eq edges old))
  pub err : IfErr result (NamesCycleAt asked (λ v. is_some (get eq old v)) (graph_of eq edges old))

-- Holds for the effect of `repair_tc`. Only nodes at keys to fix change, and edges are only added. Suppose that all
-- other nodes have an edge to every key that they reach. Then after `Ok` the new graph is the closure of the old one,
-- if no key to fix lies on a cycle. That is guaranteed if cycles were to be checked (`asked`). A reported cycle was to
-- be checked, and its key is to be fixed and lies on a cycle.
pub record Repairs {K V S T : Type 0} (eq : K → K → Bool) (edges : V → K → Bool) (asked : Bool) (fix : K → Bool)
    (old new : HashMap K V S) (result : Result T (TcError K)) : Type 0 where
  pub alone : (q : K) → fix q ≡ false → get eq new q ≡ get eq old q
  pub adds : OnlyAdds (graph_of eq edges old) (graph_of eq edges new)
  pub closed : OnOk result (IsTrusted fix (graph_of eq edges old) → HasNoCycleAt fix (graph_of eq edges old)
      → IsClosure (graph_of eq edges old) (graph_of eq edges new))
  pub ok : OnOk result (IsTrusted fix (graph_of eq edges old) → IsTrue asked
      → HasNoCycleAt fix (graph_of eq edges old))
  pub err : IfErr result (NamesCycleAt asked fix (graph_of eq edges old))

-- Holds if the map is unchanged after a reported cycle.
abbrev pub StaysOnCycle : {K M T : Type 0} → M → M → Result T (TcError K) → Type 0
StaysOnCycle old new result = IfErr result (λ e. MatchFault e (λ _ _ _. ⊥) (λ _. new ≡ old))

-- Holds for the effect of `close_dag`. Edges are only added. After `Ok` the new graph is the closure of the old one,
-- and it has no cycle. A reported key is in the map and lies on a cycle, and the map is then unchanged.
pub record ClosesDag {K V S T : Type 0} (eq : K → K → Bool) (edges : V → K → Bool) (old new : HashMap K V S)
    (result : Result T (TcError K)) : Type 0 where
  pub adds : OnlyAdds (graph_of eq edges old) (graph_of eq edges new)
  pub closed : OnOk result (IsClosure (graph_of eq edges old) (graph_of eq edges new))
  pub ok : OnOk result (HasNoCycle (graph_of eq edges old))
  pub err : IfErr result (NamesCycleAt true (λ v. is_some (get eq old v)) (graph_of eq edges old))
  pub stays : StaysOnCycle old new result

-- Holds for the effect of `repair_dag`. Only nodes at keys to fix change, and edges are only added. Suppose that all
-- other nodes have an edge to every key that they reach. Then after `Ok` the new graph is the closure of the old one,
-- and no key to fix lies on a cycle. A reported key is to be fixed and lies on a cycle, and the map is then unchanged.
pub record RepairsDag {K V S T : Type 0} (eq : K → K → Bool) (edges : V → K → Bool) (fix : K → Bool)
    (old new : HashMap K V S) (result : Result T (TcError K)) : Type 0 where
  pub alone : (q : K) → fix q ≡ false → get eq new q ≡ get eq old q
  pub adds : OnlyAdds (graph_of eq edges old) (graph_of eq edges new)
  pub closed : OnOk result (IsTrusted fix (graph_of eq edges old)
      → IsClosure (graph_of eq edges old) (graph_of eq edges new))
  pub ok : OnOk result (IsTrusted fix (graph_of eq edges old) → HasNoCycleAt fix (graph_of eq edges old))
  pub err : IfErr result (NamesCycleAt true fix (graph_of eq edges old))
  pub stays : StaysOnCycle old new result

-- Holds if the keys of the list are different, and each has an edge in the graph.
pub record AreEdged {K : Type 0} (eq : K → K → Bool) (G : K → K → Bool) (keys : List K) : Type 0 where
  pub distinct : IsDistinct eq keys
  pub edges : (q : K) → is_member eq keys q ≡ true → (b : K) × (G q b ≡ true)

-- Holds if n is at least the number of keys that have an edge in the graph.
abbrev pub CoversEdged : {K : Type 0} → (K → K → Bool) → (K → K → Bool) → ℕ → Type 0
CoversEdged {K} eq G n = (keys : List K) → AreEdged eq G keys → length keys ≤ n

-- Whether a repair needs the edges of a key: the key is to be fixed, or a key to fix has an edge to it.
abbrev pub NeedsEdges : {K : Type 0} → (K → Bool) → (K → K → Bool) → K → Type 0
NeedsEdges {K} fix G k = (fix k ≡ true) ⊎ ((x : K) × (fix x ≡ true) × (G x k ≡ true))

-- Holds if n is at most the number of keys whose edges a repair needs: there are n different ones.
abbrev pub IsAtMostNeeded : {K : Type 0} → (K → K → Bool) → (K → Bool) → (K → K → Bool) → ℕ → Type 0
IsAtMostNeeded {K} eq fix G n =
    (keys : List K) × IsDistinct eq keys × ((i : ℕ) (k : K) → slice_get keys i ≡ Some k → NeedsEdges fix G k)
    × (n ≤ length keys)

-- Holds if the map has a node at each key of the set.
abbrev pub HasAll : {K V S F : Type 0} → (K → K → Bool) → HashSet K F → HashMap K V S → Type 0
HasAll {K} eq fix nodes = (q : K) → contains eq fix q ≡ true → is_some (get eq nodes q) ≡ true
