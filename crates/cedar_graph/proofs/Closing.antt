-- The meaning of the written rows of numbers for the graph of keys.
use Rattle.std.specs.Cmp.{IsEquivalence}
use Rattle.std.specs.HashMap.{HashMap, get}
use Rattle.std.specs.Option.{is_some}
use Rattle.std.specs.Set.{is_member}
use Rattle.std.proofs.Common.{◌≡◌, Bool, true, ℕ, ◌&&◌, ◌⊎◌, inl, inr, List, Result, Err, OnOk, IfErr, IsTrue, ap}
use Rattle.std.proofs.Common.{subst, sym, ◌∙◌}
use Rattle.cedar_graph.specs.Calls.{Closes, OnlyAdds}
use Rattle.cedar_graph.specs.Faults.{MatchFault, NamesCycleAt}
use Rattle.cedar_graph.specs.Graph.{graph_of, Reach, KeepsEdges, AddsOnlyReached, HasNoCycle, IsTrusted, ReachesSame}
use Rattle.cedar_graph.specs.declared.err.TcError.{TcError}
use Rattle.cedar_graph.specs.declared.err.TcError.TheVariants.{Memory}
use Rattle.cedar_graph.specs.laws.Reaches.{HasReached, closed_once, reach_between, reach_edge}
use Rattle.cedar_graph.specs.laws.Arcs.{AreSameEdges, HasNumberBelow, IsRowEdgeBelow, near_graph}
use Rattle.cedar_graph.proofs.Members.{MatchFault-weaker, unless_memory}
use Rattle.cedar_graph.proofs.Reaches.{graph_to, edge_found, first_edge, both, reach_found}
use Rattle.cedar_graph.proofs.Keyed.{row_sound, row_complete, reach_alike, reach_of_near, near_reach}

module _ {K V S : Type 0} {eq : K → K → Bool} (laws : IsEquivalence eq) (edges : V → K → Bool)
    (alike : (n : V) (x y : K) → eq x y ≡ true → edges n x ≡ edges n y) (old new : HashMap K V S) (keys : List K)
    (E : ℕ → ℕ → Type 0) (fixed : ℕ)
    (only : (a b : K) → graph_of eq edges new a b ≡ true
    → (graph_of eq edges old a b ≡ true) ⊎ IsRowEdgeBelow eq fixed keys E a b) where
  -- If the arcs are all edges of the graph, each new edge leads to a reached key.
  pub closed_only : AreSameEdges eq (graph_of eq edges old) keys E
      → AddsOnlyReached (graph_of eq edges old) (graph_of eq edges new)
  closed_only same a b h = elim (only a b h) [
    | inl o ↦ reach_edge (graph_of eq edges old) a b o
    | inr r ↦ row_sound eq (graph_of eq edges old) keys E same (graph_to laws edges alike old) r.0 a b r.2
  ]

  -- The same, if the arcs are the edges of some keys.
  pub repaired_only : (ks : List K) → AreSameEdges eq (near_graph eq (graph_of eq edges old) ks) keys E
      → AddsOnlyReached (graph_of eq edges old) (graph_of eq edges new)
  repaired_only ks same a b h = elim (only a b h) [
    | inl o ↦ reach_edge (graph_of eq edges old) a b o
    | inr r ↦ reach_of_near eq (graph_of eq edges old) ks a b
        (row_sound eq (near_graph eq (graph_of eq edges old) ks) keys E same
        (λ x y z e. ap (λ v. is_member eq ks x && v) (graph_to laws edges alike old x y z e)) r.0 a b r.2)
  ]

module _ {K V S : Type 0} {eq : K → K → Bool} (laws : IsEquivalence eq) (edges : V → K → Bool)
    (alike : (n : V) (x y : K) → eq x y ≡ true → edges n x ≡ edges n y) (old new : HashMap K V S) (keys : List K)
    (E : ℕ → ℕ → Type 0) (fixed : ℕ)
    (done : (a b : K) → IsRowEdgeBelow eq fixed keys E a b → is_some (get eq old a) ≡ true
    → graph_of eq edges new a b ≡ true) where
  -- A key with a number below `fixed` has an edge to every key that it reaches over the arcs.
  row_done : (H : K → K → Bool) → AreSameEdges eq H keys E → (a b : K) → HasNumberBelow eq fixed keys a
      → is_some (get eq old a) ≡ true → Reach H a b → graph_of eq edges new a b ≡ true
  row_done H same a b n found p =
      done a b (
        n.0,
        n.2,
        (
          n.1,
          n.3,
          laws.symm n.1 a ∙ n.4,
          row_complete eq H keys E same n.0 n.1 b n.3 (reach_alike eq H keys E same a n.1 b n.4 p),
        ),
      ) found

  reached_found : (a b : K) → Reach (graph_of eq edges old) a b → is_some (get eq old a) ≡ true
  reached_found a b p = let f = first_edge (graph_of eq edges old) a b p.0 p.1 in edge_found eq edges old a f.0 f.1

  -- If the arcs are all edges and the keys with edges are numbered, there is an edge to every reached key.
  pub closed_has : AreSameEdges eq (graph_of eq edges old) keys E
      → ((q b : K) → graph_of eq edges old q b ≡ true → HasNumberBelow eq fixed keys q)
      → HasReached (graph_of eq edges old) (graph_of eq edges new)
  closed_has same all a b p =
      let f = first_edge (graph_of eq edges old) a b p.0 p.1 in
      row_done (graph_of eq edges old) same a b (all a f.0 f.1) (reached_found a b p) p

  -- The same for a repair: the arcs are the edges of the keys to fix and of their targets, and the other nodes have an
  -- edge to every key that they reach.
  pub repaired_has : (ks : List K) → AreSameEdges eq (near_graph eq (graph_of eq edges old) ks) keys E
      → (fix : K → Bool) → ((q : K) → fix q ≡ true → HasNumberBelow eq fixed keys q)
      → ((x u : K) → fix x ≡ true → graph_of eq edges old x u ≡ true → is_member eq ks u ≡ true)
      → ((x : K) → fix x ≡ true → is_member eq ks x ≡ true)
      → KeepsEdges (graph_of eq edges old) (graph_of eq edges new) → IsTrusted fix (graph_of eq edges old)
      → HasReached (graph_of eq edges old) (graph_of eq edges new)
  repaired_has ks same fix all near fixed_near stays trusted a b p = elim (both (fix a)) [
    | inl t ↦ row_done (near_graph eq (graph_of eq edges old) ks) same a b (all a t) (reached_found a b p)
        (near_reach eq (graph_of eq edges old) ks fix near fixed_near trusted a b t p)
    | inr t ↦ stays a b (trusted a b t p)
  ]

-- Edges to reached keys were added. The further facts depend on the result.
module _ {K V S : Type 0} (eq : K → K → Bool) (edges : V → K → Bool) (asked : Bool) (old new : HashMap K V S)
    (adds : OnlyAdds (graph_of eq edges old) (graph_of eq edges new)) where
  reach_stays : ReachesSame (graph_of eq edges old) (graph_of eq edges new)
  reach_stays = reach_between (graph_of eq edges old) (graph_of eq edges new) adds.stays adds.only

  -- An allocation failed.
  pub closes_in_part : {T : Type 0} (r : Result T (TcError K)) → r ≡ Err Memory → Closes eq edges asked old new r
  closes_in_part r is =
      subst (λ v. Closes eq edges asked old new v) (sym is)
      (record { adds = adds; same = reach_stays; closed = tt; once = tt; ok = tt; err = tt })

  -- There is an edge to every reached key.
  pub closes_whole : {T : Type 0} → HasReached (graph_of eq edges old) (graph_of eq edges new)
      → (r : Result T (TcError K)) → OnOk r (IsTrue asked → HasNoCycle (graph_of eq edges old))
      → IfErr r (NamesCycleAt asked (λ v. is_some (get eq old v)) (graph_of eq edges old))
      → Closes eq edges asked old new r
  closes_whole has r ok err = record {
    adds = adds;
    same = reach_stays;
    closed = unless_memory r (λ a b. (adds.only a b, has a b));
    once = unless_memory r (closed_once (graph_of eq edges old) (graph_of eq edges new) adds.only has);
    ok = ok;
    err = err;
  }

  -- A loop that was found lies on a cycle.
  pub loop_named : IsTrue asked → (e : TcError K) → MatchFault e (λ _ _ _. ⊥) (λ v. graph_of eq edges new v v ≡ true)
      → NamesCycleAt asked (λ v. is_some (get eq old v)) (graph_of eq edges old) e
  loop_named is e h = MatchFault-weaker e _ _ _ _ (λ _ _ _ no. no) (λ v loop. let p = adds.only v v loop in
      (is, reach_found eq edges old v v p, p)) h
