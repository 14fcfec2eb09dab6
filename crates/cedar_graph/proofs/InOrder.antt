-- Rows that ascend, as they are built.
use Rattle.std.specs.Cmp.{IsEquivalence}
use Rattle.std.proofs.Common.{◌≡◌, ◌⊎◌, Bool, true, ℕ, ◌+◌, ◌<◌, ◌≤◌, ◌++◌, ◌∷◌, [], List, Some, inl, inr, arith, refl, sym, ap, subst}
use Rattle.std.proofs.Common.{length, length-append, length-drop, slice_get, get_or, drop, take, zero, suc, ◌-◌, ◌∙◌}
use Rattle.std.specs.List.{slice_range}
use Rattle.std.proofs.Math.Seq.{get_or-append_seam}
use Rattle.std.proofs.lemmas.Bool.{cases_eq, cases_lt}
use Rattle.std.proofs.lemmas.List.{get_or-take, get_or-drop, length-take-le}
use Rattle.std.proofs.lemmas.Option.{slice_get_within, get_or_from_slice_get}
use Rattle.cedar_components.specs.Reach.{AreInOrder, IsRanking}
use Rattle.cedar_graph.specs.Ascending.{IsAscending, IsAscendingAt, RespectsEq}
use Rattle.cedar_graph.specs.laws.Ranks.{AreRanked, AscendByPlaces, EndsBelow}
use Rattle.cedar_graph.specs.laws.Writings.{KeepsOrder, KeepsOrderBy, TakesInOrder}
use Rattle.cedar_graph.proofs.Keyed.{got_back}

-- The last element of a list.
got_last : {K : Type 0} (old : List K) (copy x : K) (i : ℕ) → length old ≤ i
    → slice_get (old ++ copy ∷ []) i ≡ Some x → (i ≡ length old) × (copy ≡ x)
got_last old copy x i over got =
    let within : i < length (old ++ copy ∷ []) = slice_get_within (old ++ copy ∷ []) i x got in
    let last : i ≡ length old = omega (arith, within, length-append old (copy ∷ [])) in
    let at : get_or (old ++ copy ∷ []) i copy ≡ x = get_or_from_slice_get (old ++ copy ∷ []) i x copy got in
    (last, sym (get_or-append_seam old copy [] copy) ∙ ap (λ k. get_or (old ++ copy ∷ []) k copy) (sym last) ∙ at)

module _ {K : Type 0} {eq : K → K → Bool} (keys : List K) (numbers : List ℕ) where
  -- An empty row.
  pub none_in_order : (row : List K) → row ≡ [] → KeepsOrder eq keys numbers 0 row
  none_in_order row is = record {
    by = λ precedes respects ascends. record {
      ascends = λ i j x y lt g h. absurd (omega (arith, slice_get_within row i x g, ap length is));
      before = λ i m x y g le lt h. absurd (omega (arith, slice_get_within row i x g, ap length is));
    };
  }

  -- A later place.
  pub later_in_order : (n m : ℕ) (row : List K) → n ≤ m → KeepsOrder eq keys numbers n row
      → KeepsOrder eq keys numbers m row
  later_in_order n m row le o = record {
    by = λ precedes respects ascends.
        let b = o.by precedes respects ascends in
        record { ascends = b.ascends; before = λ i k x y g more lt h. b.before i k x y g (omega arith) lt h };
  }

  -- A copy of the next key is appended.
  pushed_in_order : (laws : IsEquivalence eq) (n : ℕ) (key copy : K) (old : List K) → n < length numbers
      → slice_get keys (get_or numbers n 0) ≡ Some key → eq key copy ≡ true
      → KeepsOrder eq keys numbers n old → KeepsOrder eq keys numbers (n + 1) (old ++ copy ∷ [])
  pushed_in_order laws n key copy old within got same o = record {
    by = λ precedes respects ascends.
        let b = o.by precedes respects ascends in
        record {
          ascends = λ i j x y lt g h. elim (cases_lt j (length old)) [
            | inl inside ↦ b.ascends i j x y lt (got_back old (copy ∷ []) i x (omega (arith, lt, inside)) g)
                (got_back old (copy ∷ []) j y inside h)
            | inr over ↦
                let l = got_last old copy y j over h in
                let first : slice_get old i ≡ Some x =
                got_back old (copy ∷ []) i x (omega (arith, lt, l.0)) g in
                let goes : precedes x copy ≡ true =
                sym (respects x x key copy (laws.refl x) same)
                ∙ b.before i n x key first (omega arith) within got in
                subst (λ z. precedes x z ≡ true) l.1 goes
          ];
          before = λ i m x y g more lt h. elim (cases_lt i (length old)) [
            | inl inside ↦ b.before i m x y (got_back old (copy ∷ []) i x inside g) (omega (arith, more)) lt h
            | inr over ↦
                let l = got_last old copy x i over g in
                let goes : precedes copy y ≡ true =
                sym (respects key copy y y same (laws.refl y)) ∙ ascends n m key y (omega (arith, more)) lt got h in
                subst (λ z. precedes z y ≡ true) l.1 goes
          ];
        };
  }

  -- The next key is appended or left out.
  pub taken_in_order : (laws : IsEquivalence eq) (n : ℕ) (key : K) (old new : List K) → n < length numbers
      → slice_get keys (get_or numbers n 0) ≡ Some key → TakesInOrder eq key old new
      → KeepsOrder eq keys numbers n old → KeepsOrder eq keys numbers (n + 1) new
  taken_in_order laws n key old new within got takes o = elim takes [
    | inl same ↦ subst (KeepsOrder eq keys numbers (n + 1)) (sym same) (later_in_order n (n + 1) old (omega arith) o)
    | inr more ↦ subst (KeepsOrder eq keys numbers (n + 1)) (sym more.2)
        (pushed_in_order laws n key more.0 old within got more.1 o)
  ]

-- Numbers whose places ascend and end below the limit have ascending keys.
pub ascending_by_places : {K : Type 0} (precedes : K → K → Bool) (keys : List K) (limit : ℕ) (places list : List ℕ)
    → AreRanked precedes keys limit places → AscendByPlaces places list → EndsBelow limit places list
    → IsAscendingAt precedes keys list
ascending_by_places precedes keys limit places list ranked placed ends i j x y lt within g h =
    let last = length list - 1 in
    let end : get_or places (get_or list last 0) 0 < limit = ends (omega (arith, within)) in
    let below : get_or places (get_or list j 0) 0 < limit = elim (cases_eq j last) [
      | inl same ↦ omega (arith, end, ap (λ n. get_or places (get_or list n 0) 0) same)
      | inr before ↦ omega (arith, end, placed j last (omega (arith, within, before)) (omega (arith, within)))
    ] in
    ranked.ranked (get_or list i 0) (get_or list j 0) x y g h (placed i j lt within) below

-- The places in an order whose first keys ascend.
pub ranked_by_order : {K : Type 0} (precedes : K → K → Bool) (keys : List K) (limit : ℕ) (order places : List ℕ)
    → limit ≤ length order → IsRanking (length keys) order places
    → IsAscendingAt precedes keys (take limit order) → AreRanked precedes keys limit places
ranked_by_order precedes keys limit order places le ranks ascends = record {
  len = ranks.len;
  ranked = λ a b x y g h lt below.
      let first : get_or places a 0 < limit = omega (arith, lt, below) in
      let len : length (take limit order) ≡ limit = length-take-le limit order le in
      let a_in : a < length places = omega (arith, slice_get_within keys a x g, ranks.len) in
      let b_in : b < length places = omega (arith, slice_get_within keys b y h, ranks.len) in
      let at_a : get_or (take limit order) (get_or places a 0) 0 ≡ a =
      get_or-take limit order (get_or places a 0) 0 first ∙ ranks.standing.stands a a_in in
      let at_b : get_or (take limit order) (get_or places b 0) 0 ≡ b =
      get_or-take limit order (get_or places b 0) 0 below ∙ ranks.standing.stands b b_in in
      ascends (get_or places a 0) (get_or places b 0) x y lt (omega (arith, len, below))
      (subst (λ k. slice_get keys k ≡ Some x) (sym at_a) g) (subst (λ k. slice_get keys k ≡ Some y) (sym at_b) h);
}

-- A part of lists that are in the order of their places.
pub part_by_places : (places start lists : List ℕ) (q : ℕ) → q + 1 < length start
    → get_or start q 0 ≤ get_or start (q + 1) 0 → get_or start (q + 1) 0 ≤ length lists
    → AreInOrder places start lists
    → AscendByPlaces places (slice_range lists (get_or start q 0) (get_or start (q + 1) 0))
part_by_places places start lists q inside ordered within all i j lt below =
    let first = get_or start q 0 in
    let end = get_or start (q + 1) 0 in
    let len : length (slice_range lists first end) ≡ end - first =
    length-take-le (end - first) (drop first lists) (omega (arith, length-drop first lists, within, ordered)) in
    let j_in : j < end - first = omega (arith, below, len) in
    let at_i = get_or-take (end - first) (drop first lists) i 0 (omega (arith, lt, j_in)) ∙ get_or-drop first lists i 0 in
    let at_j = get_or-take (end - first) (drop first lists) j 0 j_in ∙ get_or-drop first lists j 0 in
    let place : ℕ → ℕ = λ y. get_or places y 0 in
    let goes = all q (first + i) (first + j) inside (omega arith) (omega (arith, lt)) (omega (arith, j_in)) in
    omega (arith, goes, ap place at_i, ap place at_j)

-- Taking fewer elements of those that were taken.
pub take_again : (n m : ℕ) (xs : List ℕ) → n ≤ m → take n (take m xs) ≡ take n xs
take_again zero m xs le = refl
take_again (suc n) zero xs le = absurd (omega (arith, le))
take_again (suc n) (suc m) [] le = refl
take_again (suc n) (suc m) (x ∷ xs) le = ap (λ l. x ∷ l) (take_again n m xs (omega (arith, le)))
