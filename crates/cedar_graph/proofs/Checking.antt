-- If each number has an arc to every number that it reaches, the graph is closed.
use Rattle.std.specs.Cmp.{IsEquivalence}
use Rattle.std.specs.HashMap.{HashMap}
use Rattle.std.specs.List.{IsDistinct}
use Rattle.std.proofs.Common.{◌≡◌, Bool, true, ℕ, ◌<◌, inl, inr, List, sym, subst}
use Rattle.std.proofs.Common.{◌∙◌, [], ◌∷◌, refl}
use Rattle.cedar_components.specs.Reach.{HasPath, Leads}
use Rattle.cedar_graph.specs.Graph.{graph_of, IsClosed}
use Rattle.cedar_graph.specs.Faults.{BreaksClosed}
use Rattle.cedar_graph.specs.laws.Arcs.{AreSameEdges, HasNumberBelow, IsKeyAt}
use Rattle.cedar_graph.specs.laws.Checks.{IsClosedAt}
use Rattle.cedar_graph.proofs.Keyed.{number_same}
use Rattle.cedar_graph.proofs.Reaches.{both, graph_to}

-- Two arcs form a path.
pub goes_two : (E : ℕ → ℕ → Type 0) (a b c : ℕ) → E a b → E b c → HasPath E a c
unfolding Leads
goes_two E a b c p q = (b, p, (c ∷ [], (q, refl)))

module _ {K V S : Type 0} {eq : K → K → Bool} (laws : IsEquivalence eq) (edges : V → K → Bool)
    (alike : (n : V) (x y : K) → eq x y ≡ true → edges n x ≡ edges n y) (nodes : HashMap K V S) (keys : List K)
    (E : ℕ → ℕ → Type 0) (same : AreSameEdges eq (graph_of eq edges nodes) keys E) where
  -- If there is an arc between two numbers, there is an edge between their keys.
  pub edge_of : (a b : ℕ) (p q : K) → E a b → IsKeyAt eq keys a p → IsKeyAt eq keys b q
      → graph_of eq edges nodes p q ≡ true
  edge_of a b p q e at_a at_b =
      sym (same.respects_eq at_a.0 p q at_a.2) ∙ sym (graph_to laws edges alike nodes at_a.0 at_b.0 q at_b.2)
      ∙ same.sound a b at_a.0 at_b.0 e at_a.1 at_b.1

  pub closed_from : (fixed : ℕ)
      → ((q b : K) → graph_of eq edges nodes q b ≡ true → HasNumberBelow eq fixed keys q)
      → ((n : ℕ) → n < fixed → IsClosedAt E n) → IsClosed (graph_of eq edges nodes)
  closed_from fixed all closed a b c p q =
      let n = all a b p in
      let m = same.complete n.0 n.1 b n.3 (sym (same.respects_eq a n.1 b n.4) ∙ p) in
      let l = same.complete m.0 m.1 c m.3 (sym (same.respects_eq b m.1 c m.4) ∙ q) in
      let arc = closed n.0 n.2 m.0 l.0 m.2 l.2 in
      edge_of n.0 l.0 a c arc (n.1, n.3, laws.symm n.1 a ∙ n.4) (l.1, l.3, laws.symm l.1 c ∙ l.4)

  -- If a number has no arc to a target of one of its targets, the three keys show that the graph is not closed.
  pub breaks : IsDistinct eq keys → (a b c : ℕ) (p q r : K) → E a b → E b c → (E a c → ⊥)
      → IsKeyAt eq keys a p → IsKeyAt eq keys b q → IsKeyAt eq keys c r → BreaksClosed (graph_of eq edges nodes) p q r
  breaks unique a b c p q r ab bc lacks at_a at_b at_c = (
    edge_of a b p q ab at_a at_b,
    edge_of b c q r bc at_b at_c,
    elim (both (graph_of eq edges nodes p r)) [
      | inl is ↦
          let l = same.complete a at_a.0 r at_a.1 (same.respects_eq at_a.0 p r at_a.2 ∙ is) in
          let one : l.0 ≡ c = number_same laws keys unique l.0 c l.1 at_c.0 l.3 at_c.1
          (laws.congr l.1 r at_c.0 (laws.symm l.1 r ∙ l.4) ∙ (laws.symm r at_c.0 ∙ at_c.2)) in
          absurd (lacks (subst (λ v. E a v) one l.2))
      | inr is ↦ is
    ],
  )
