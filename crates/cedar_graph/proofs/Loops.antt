-- On every path from a number back to itself, some arc leads to a higher number or to the number itself.
use Rattle.std.specs.Cmp.{IsEquivalence}
use Rattle.std.specs.HashMap.{HashMap}
use Rattle.std.specs.List.{IsDistinct}
use Rattle.std.proofs.lemmas.Bool.{cases_eq, cases_lt}
use Rattle.std.proofs.Common.{◌≡◌, Bool, true, ℕ, ◌+◌, ◌<◌, ◌≤◌, ◌⊎◌, inl, inr, List, [], ◌∷◌, ◌++◌, refl, slice_index}
use Rattle.std.proofs.Common.{ap, sym, subst, ◌∙◌, arith}
use Rattle.cedar_components.specs.Reach.{Walk, Leads, HasPath}
use Rattle.cedar_graph.specs.Graph.{graph_of, AddsOnlyReached, HasNoLoop}
use Rattle.cedar_graph.specs.laws.Arcs.{AreSameEdges, HasNumberBelow}
use Rattle.cedar_graph.specs.laws.Writings.{AreMarked, NoneGoesBack}
use Rattle.cedar_graph.proofs.Keyed.{number_same, reach_alike, row_complete}
use Rattle.cedar_graph.proofs.Reaches.{both, first_edge}

module _ (E : ℕ → ℕ → Type 0) where
  walk_on : (a b c : ℕ) (xs ys : List ℕ) → Walk E a xs b → Walk E b ys c → Walk E a (xs ++ ys) c
  walk_on a b c [] ys p q = subst (λ v. Walk E v ys c) (sym p) q
  walk_on a b c (x ∷ xs) ys p q = (p.0, walk_on x b c xs ys p.1 q)

  -- A walk followed by an arc.
  goes_after : (a w x : ℕ) (xs : List ℕ) → Walk E a xs w → E w x → HasPath E a x
  unfolding Leads
  goes_after a w x [] p e = (x, subst (λ v. E v x) (sym p) e, ([], refl))
  goes_after a w x (y ∷ ys) p e = (y, p.0, (ys ++ x ∷ [], walk_on y w x ys (x ∷ []) p.1 (e, refl)))

  -- On a path from a over z to b, some arc leads from a number to one that is not below it, or b is below a.
  upward : (a z b : ℕ) (xs : List ℕ) → E a z → Walk E z xs b
      → ((w : ℕ) × (x : ℕ) × (ys : List ℕ) × (zs : List ℕ) × (w ≤ x) × E w x × Walk E a ys w × Walk E x zs b) ⊎ (b < a)
  upward a z b [] e p = elim (cases_lt z a) [
    | inl lt ↦ inr (omega (arith, lt, p))
    | inr ge ↦ inl (a, z, [], [], omega arith, e, refl, p)
  ]
  upward a z b (u ∷ us) e p = elim (cases_lt z a) [
    | inl lt ↦ elim (upward z u b us p.0 p.1) [
      | inl f ↦ inl (f.0, f.1, z ∷ f.2, f.3, f.4, f.5, (e, f.6), f.7)
      | inr below ↦ inr (omega arith)
    ]
    | inr ge ↦ inl (a, z, [], u ∷ us, omega arith, e, refl, p)
  ]

  -- A number on a cycle has an arc to it from a number that is not above it.
  pub back_upward : (n : ℕ) → HasPath E n n → (w : ℕ) × (x : ℕ) × (w ≤ x) × E w x × HasPath E x x
  unfolding Leads
  back_upward n g = elim (upward n g.0 n g.2.0 g.1 g.2.1) [
    | inl f ↦ (f.0, f.1, f.4, f.5, goes_after f.1 f.0 f.1 (f.3 ++ f.2) (walk_on f.1 n f.0 f.3 f.2 f.7 f.6) f.5)
    | inr below ↦ absurd (omega (arith, below))
  ]

  -- If all arcs lead downward, no number reaches itself.
  walk_down : (m : ℕ → ℕ) → ((a b : ℕ) → E a b → m b < m a) → (a b : ℕ) (xs : List ℕ) → Walk E a xs b → m b ≤ m a
  walk_down m down a b [] p = omega (arith, ap m p)
  walk_down m down a b (x ∷ xs) p = omega (arith, down a x p.0, walk_down m down x b xs p.1)

  pub none_down : (m : ℕ → ℕ) → ((a b : ℕ) → E a b → m b < m a) → (x : ℕ) → HasPath E x x → ⊥
  unfolding Leads
  none_down m down x g = omega (arith, down x g.0 g.1, walk_down m down g.0 x g.2.0 g.2.1)

  -- The targets of one more number are marked.
  pub marked_more : (x mark : ℕ) (old new : List ℕ) → AreMarked E x old
      → ((y : ℕ) → slice_index old y ≤ slice_index new y) → ((y : ℕ) → E x y → slice_index new y ≡ mark)
      → mark ≡ x + 1 → AreMarked E (x + 1) new
  marked_more x mark old new marked grows here is w y h e = elim (cases_eq w x) [
    | inl same ↦ omega (arith, here y (subst (λ v. E v y) same e), is)
    | inr ne ↦ omega (arith, marked w y (omega arith) e, grows y)
  ]

  -- One more number was checked.
  pub none_further : (x : ℕ) (marks : List ℕ) → NoneGoesBack E x → (0 < slice_index marks x → HasPath E x x → ⊥)
      → AreMarked E (x + 1) marks → NoneGoesBack E (x + 1)
  none_further x marks none here marked w u le h e goes = elim (cases_eq u x) [
    | inl same ↦ here (subst (λ y. 0 < slice_index marks y) same (marked w u (omega arith) e))
        (subst (λ y. HasPath E y y) same goes)
    | inr ne ↦ none w u le (omega arith) e goes
  ]

-- If no number to fix reaches itself, no key has an edge to itself after a closure.
module _ {K V S : Type 0} {eq : K → K → Bool} (laws : IsEquivalence eq) (edges : V → K → Bool) (old new : HashMap K V S)
    (keys : List K) (unique : IsDistinct eq keys) (E : ℕ → ℕ → Type 0) (fixed : ℕ)
    (same : AreSameEdges eq (graph_of eq edges old) keys E)
    (all : (q b : K) → graph_of eq edges old q b ≡ true → HasNumberBelow eq fixed keys q) where
  -- A number with an incoming and an outgoing arc is to be fixed.
  is_fixed : (w x z : ℕ) → E w x → E x z → x < fixed
  is_fixed w x z e f =
      let k = same.has_key w x e in
      let l = same.has_key x z f in
      let n = all k.0 l.0 (same.sound x z k.0 l.0 f k.1 l.1) in
      let is : x ≡ n.0 = number_same laws keys unique x n.0 k.0 n.1 k.1 n.3 n.4 in
      omega (arith, n.2, is)

  pub no_loop : AddsOnlyReached (graph_of eq edges old) (graph_of eq edges new) → NoneGoesBack E fixed
      → HasNoLoop (graph_of eq edges new)
  no_loop only none a = elim (both (graph_of eq edges new a a)) [
    | inl loop ↦
        let G = graph_of eq edges old in
        let p = only a a loop in
        let f = first_edge G a a p.0 p.1 in
        let n = all a f.0 f.1 in
        let r = row_complete eq G keys E same n.0 n.1 a n.3 (reach_alike eq G keys E same a n.1 a n.4 p) in
        let is : r.0 ≡ n.0 = number_same laws keys unique r.0 n.0 r.1 n.1 r.3 n.3
        (laws.congr r.1 a n.1 (laws.symm r.1 a ∙ r.4) ∙ n.4) in
        let u = back_upward E n.0 (subst (λ v. HasPath E n.0 v) is r.2) in
        absurd (none u.0 u.1 u.2 (is_fixed u.0 u.1 u.4.0 u.3 u.4.1) u.3 u.4)
    | inr none_here ↦ none_here
  ]
