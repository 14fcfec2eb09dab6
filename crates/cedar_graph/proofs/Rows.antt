-- Rows of keys, and the effect of writing them.
use Rattle.std.specs.Cmp.{IsEquivalence, nat_eq_equiv}
use Rattle.std.specs.HashMap.{HashMap, get, keys}
use Rattle.std.specs.List.{list_any, slice_get, slice_range}
use Rattle.std.specs.Option.{is_some}
use Rattle.std.proofs.lemmas.Bool.{cases_eq, eqb-true}
use Rattle.std.proofs.lemmas.List.{get_or-take, get_or-drop}
use Rattle.std.proofs.lemmas.List.Folds.{list_any_at}
use Rattle.std.proofs.lemmas.Result.{on_ok_weaker}
use Rattle.std.proofs.Common.{◌≡◌, Bool, true, ℕ, ◌<◌, ◌≤◌, ◌+◌, ◌-◌, inl, inr, nat_eq, suc, List, [], ◌∷◌, Some, Result, Ok, OnOk}
use Rattle.std.proofs.Common.{length, drop, get_or, arith, ap, refl, sym, subst, ◌∙◌, length-take, length-drop}
use Rattle.cedar_components.specs.Reach.{HasPath, IsReach, IsWithin}
use Rattle.cedar_graph.specs.Graph.{graph_of}
use Rattle.cedar_graph.specs.declared.close.Known.{Known}
use Rattle.cedar_graph.specs.laws.Arcs.{IsKeyAt, IsRowEdge, IsRowEdgeBelow, ReachesKey}
use Rattle.cedar_graph.specs.laws.Writings.{CountsFound, HasNodes, IsAt, IsEdgeTo, IsKeyBelow, IsRowOf, KnowsEdges}
use Rattle.cedar_graph.specs.laws.Writings.{Writes}
use Rattle.cedar_graph.proofs.Reaches.{graph_from, graph_to, or_cases, same_found}

module _ (lists : List ℕ) (i j : ℕ) (ordered : i ≤ j) (within : j ≤ length lists) where
  part_len : length (slice_range lists i j) ≡ j - i
  part_len = omega (arith, length-take (j - i) (drop i lists), length-drop i lists)

  part_at : (n : ℕ) → n < j - i → get_or (slice_range lists i j) n 0 ≡ get_or lists (i + n) 0
  part_at n h = get_or-take (j - i) (drop i lists) n 0 h ∙ get_or-drop i lists n 0

-- The position of a number that is found in a list.
found_at : (y : ℕ) (xs : List ℕ) → list_any (λ v. nat_eq v y) xs ≡ true
    → (n : ℕ) × (n < length xs) × (get_or xs n 0 ≡ y)
found_at y [] h = absurd cc
found_at y (x ∷ xs) h = elim (or_cases (nat_eq x y) (list_any (λ v. nat_eq v y) xs) h) [
  | inl same ↦ (0, omega arith, eqb-true x y same)
  | inr further ↦ let r = found_at y xs further in (suc r.0, omega (arith, r.1), r.2)
]

-- The list of the component of number x.
module _ {K : Type 0} (eq : K → K → Bool) (keys : List K) (E : ℕ → ℕ → Type 0) (component start lists : List ℕ)
    (r : IsReach E (length keys) component start lists) (x : ℕ) (within : x < length keys)
    (i j : ℕ) (i_is : i ≡ get_or start (get_or component x 0) 0)
    (j_is : j ≡ get_or start (get_or component x 0 + 1) 0) where
  ordered : i ≤ j
  ordered = omega (arith, r.ordered x within)

  inside : j ≤ length lists
  inside = omega (arith, r.inside x within)

  part_reached : (q : K) → IsKeyBelow eq keys (slice_range lists i j) (length (slice_range lists i j)) q
      → ReachesKey eq keys E x q
  part_reached q p =
      let n_in : p.0 < j - i = omega (arith, p.2, part_len lists i j ordered inside) in
      let y = get_or (slice_range lists i j) p.0 0 in
      let at : get_or lists (i + p.0) 0 ≡ y = sym (part_at lists i j ordered inside p.0 n_in) in
      let here : IsWithin lists i j y = (i + p.0, omega arith, omega arith, at) in (
        y,
        p.1,
        r.sound x y within (subst (λ m. IsWithin lists m (get_or start (get_or component x 0 + 1) 0) y) i_is
            (subst (λ m. IsWithin lists i m y) j_is here)),
        p.3,
        p.4,
      )

  reached_part : (q : K) → ReachesKey eq keys E x q → IsKeyBelow eq keys (slice_range lists i j)
      (length (slice_range lists i j)) q
  reached_part q p =
      let w = r.complete x p.0 within p.2 in
      let n = w.0 - i in
      let n_in : n < j - i = omega (arith, w.1, w.2) in
      let place : i + n ≡ w.0 = omega (arith, w.1) in
      let at : get_or (slice_range lists i j) n 0 ≡ p.0 = part_at lists i j ordered inside n n_in
      ∙ ap (λ m. get_or lists m 0) place ∙ w.3 in
      (n, p.1, omega (arith, part_len lists i j ordered inside), rw at p.3, p.4)

  -- A reached number has a position in the list.
  pub part_place : (y : ℕ) → HasPath E x y
      → (n : ℕ) × (n < length (slice_range lists i j)) × (get_or (slice_range lists i j) n 0 ≡ y)
  part_place y goes =
      let w = r.complete x y within goes in
      let n = w.0 - i in
      let n_in : n < j - i = omega (arith, w.1, w.2) in
      let place : i + n ≡ w.0 = omega (arith, w.1) in (
        n,
        omega (arith, part_len lists i j ordered inside),
        part_at lists i j ordered inside n n_in ∙ ap (λ m. get_or lists m 0) place ∙ w.3,
      )

  -- A reached number is found in the list.
  pub part_has : (y : ℕ) → HasPath E x y → list_any (λ v. nat_eq v y) (slice_range lists i j) ≡ true
  part_has y goes =
      let p = part_place y goes in
      list_any_at (λ v. nat_eq v y) (slice_range lists i j) p.0 0 p.1 (rw p.2 (nat_eq_equiv.refl y))

  -- A number that is found in the list is reached.
  pub part_only : (y : ℕ) → list_any (λ v. nat_eq v y) (slice_range lists i j) ≡ true → HasPath E x y
  part_only y h =
      let f = found_at y (slice_range lists i j) h in
      let n_in : f.0 < j - i = omega (arith, f.1, part_len lists i j ordered inside) in
      let at : get_or lists (i + f.0) 0 ≡ y = sym (part_at lists i j ordered inside f.0 n_in) ∙ f.2 in
      let here : IsWithin lists i j y = (i + f.0, omega arith, omega arith, at) in
      r.sound x y within (subst (λ m. IsWithin lists m (get_or start (get_or component x 0 + 1) 0) y) i_is
      (subst (λ m. IsWithin lists i m y) j_is here))

  -- After its row is written, the node of a number has edges to exactly the reached keys.
  pub number_written : {V S T F : Type 0} (laws : IsEquivalence eq) (edges : V → K → Bool)
      (alike : (n : V) (x y : K) → eq x y ≡ true → edges n x ≡ edges n y)
      (old new : HashMap K V S) (r : Result T F) (key : K) (row : List K) (known : Known)
      → slice_get keys x ≡ Some key → KnowsEdges eq (graph_of eq edges old) keys x known
      → IsRowOf eq keys (slice_range lists i j) known row
      → Writes eq edges (IsAt eq key) (IsEdgeTo eq key row) old new r
      → Writes eq edges (IsKeyAt eq keys x) (IsRowEdge eq keys E x) old new r
  number_written laws edges alike old new r key row known got knows is w = record {
    alone = λ q out. w.alone q (λ t. out (key, got, t));
    stays = w.stays;
    only = λ a b h. elim (w.only a b h) [
      | inl o ↦ inl o
      | inr p ↦ inr (key, got, p.0, part_reached b (is.only b p.1))
    ];
    ok = on_ok_weaker r (λ done a b e found.
        let same : key ≡ e.0 = cc in
        let at_a : eq key a ≡ true = ap (λ k. eq k a) same ∙ e.2 in
        elim (is.all b (reached_part b e.3)) [
          | inl m ↦ done a b (at_a, m) found
          | inr k ↦ w.stays a b (graph_from laws edges alike old a key b (laws.symm a key ∙ at_a)
              ∙ graph_to laws edges alike old key b k.1 k.4 ∙ knows.edges k.0 key k.1 got k.2 k.3)
        ]) w.ok;
  }

-- The count of nodes at the key of a number.
pub number_counted : {K V S : Type 0} {eq : K → K → Bool} (laws : IsEquivalence eq) (keys : List K) (x : ℕ) (key : K)
    → slice_get keys x ≡ Some key → (nodes : HashMap K V S) (n : ℕ)
    → CountsFound 1 (is_some (get eq nodes key) ≡ true) n → CountsFound 1 (HasNodes eq nodes (IsKeyAt eq keys x)) n
number_counted laws keys x key got nodes n c = record {
  most = c.most;
  all = λ has. c.all (has key (key, got, laws.refl key));
}

-- A result without an error.
abbrev pub done : Result (Unit {0}) (Unit {0})
done = Ok tt

module _ {K V S : Type 0} (eq : K → K → Bool) (edges : V → K → Bool) (ks : List K) (E : ℕ → ℕ → Type 0)
    (A : K → Type 0) where
  -- One more row was written.
  pub rows_written : {T F : Type 0} (m n o : HashMap K V S) (r : Result T F) (x : ℕ)
      → ((q : K) → IsKeyAt eq ks x q → A q) → keys n ≡ keys m
      → Writes eq edges A (IsRowEdgeBelow eq x ks E) m n done
      → Writes eq edges (IsKeyAt eq ks x) (IsRowEdge eq ks E x) n o r
      → Writes eq edges A (IsRowEdgeBelow eq (x + 1) ks E) m o r
  rows_written m n o r x at_x same v w = record {
    alone = λ q out. w.alone q (λ t. out (at_x q t)) ∙ v.alone q out;
    stays = λ a b h. w.stays a b (v.stays a b h);
    only = λ a b h. elim (w.only a b h) [
      | inl p ↦ elim (v.only a b p) [ inl o ↦ inl o | inr e ↦ inr (e.0, omega (arith, e.1), e.2) ]
      | inr e ↦ inr (x, omega arith, e)
    ];
    ok = on_ok_weaker r (λ all a b e found. elim (cases_eq e.0 x) [
      | inl is ↦ all a b (subst (λ i. IsRowEdge eq ks E i a b) is e.2) (same_found eq m n a same ∙ found)
      | inr ne ↦ w.stays a b (v.ok a b (e.0, omega (arith, e.1), e.2) found)
    ]) w.ok;
  }

  -- No row was written yet.
  pub none_written : (m : HashMap K V S) → Writes eq edges A (IsRowEdgeBelow eq 0 ks E) m m done
  none_written m = record {
    alone = λ q out. refl;
    stays = λ a b h. h;
    only = λ a b h. inl h;
    ok = λ a b e found. absurd (omega (arith, e.1));
  }

  -- The bound of the written rows can be raised.
  pub rows_wider : {T F U G : Type 0} (m o : HashMap K V S) (r : Result T F) (s : Result U G) (x fixed : ℕ)
      → x ≤ fixed → Writes eq edges A (IsRowEdgeBelow eq x ks E) m o r
      → OnOk s ((a b : K) → IsRowEdgeBelow eq fixed ks E a b → is_some (get eq m a) ≡ true
      → graph_of eq edges o a b ≡ true)
      → Writes eq edges A (IsRowEdgeBelow eq fixed ks E) m o s
  rows_wider m o r s x fixed le w ok = record {
    alone = w.alone;
    stays = w.stays;
    only = λ a b h. elim (w.only a b h) [ inl p ↦ inl p | inr e ↦ inr (e.0, omega (arith, e.1), e.2) ];
    ok = ok;
  }

  -- One more row was written without an error.
  pub rows_next : {T F : Type 0} (m n o : HashMap K V S) (r : Result T F) (x : ℕ)
      → ((q : K) → IsKeyAt eq ks x q → A q) → keys n ≡ keys m
      → Writes eq edges A (IsRowEdgeBelow eq x ks E) m n done
      → Writes eq edges (IsKeyAt eq ks x) (IsRowEdge eq ks E x) n o r
      → ((a b : K) → IsRowEdge eq ks E x a b → is_some (get eq n a) ≡ true → graph_of eq edges o a b ≡ true)
      → Writes eq edges A (IsRowEdgeBelow eq (x + 1) ks E) m o done
  rows_next m n o r x at_x same v w all = rows_written m n o done x at_x same v
      (record { alone = w.alone; stays = w.stays; only = w.only; ok = all })
