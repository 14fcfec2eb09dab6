-- Rows that are built in runs: the keys of the numbers between two known numbers.
use Rattle.std.specs.Cmp.{IsEquivalence}
use Rattle.std.specs.List.{IsDistinct, list_any, slice_range}
use Rattle.std.specs.Set.{is_member}
use Rattle.std.proofs.lemmas.Bool.{cases_eq, cases_lt}
use Rattle.std.proofs.lemmas.List.{get_or-take, get_or-drop}
use Rattle.std.proofs.lemmas.List.Folds.{list_any_at}
use Rattle.std.specs.Cmp.{nat_eq_equiv}
use Rattle.std.proofs.Common.{◌≡◌, Bool, true, false, ℕ, ◌<◌, ◌≤◌, ◌+◌, ◌-◌, inl, inr, nat_eq, List, [], Some, arith, ap, sym, subst}
use Rattle.std.proofs.Common.{slice_get, length, length-take, length-drop, drop, get_or, ◌∙◌}
use Rattle.cedar_graph.specs.declared.close.Known.{Known}
use Rattle.cedar_graph.specs.laws.Writings.{IsRowTo, TakesKey, TakesRun}
use Rattle.cedar_graph.proofs.Keyed.{number_same}

-- An element of a list at or after a position is found from that position on.
pub found_from : (xs : List ℕ) (i y n : ℕ) → i ≤ n → n < length xs → get_or xs n 0 ≡ y
    → list_any (λ v. nat_eq v y) (slice_range xs i (length xs)) ≡ true
found_from xs i y n le lt is =
    let part = slice_range xs i (length xs) in
    let place : i + (n - i) ≡ n = omega arith in
    let at : get_or part (n - i) 0 ≡ y = get_or-take (length xs - i) (drop i xs) (n - i) 0 (omega arith)
    ∙ get_or-drop i xs (n - i) 0 ∙ ap (λ m. get_or xs m 0) place ∙ is in
    list_any_at (λ v. nat_eq v y) part (n - i) 0
    (omega (arith, length-take (length xs - i) (drop i xs), length-drop i xs)) (rw at (nat_eq_equiv.refl y))

module _ {K : Type 0} {eq : K → K → Bool} (laws : IsEquivalence eq) (keys : List K) (unique : IsDistinct eq keys)
    (numbers : List ℕ) (known : Known) where
  -- An empty row.
  pub none_taken : (row : List K) → row ≡ [] → IsRowTo eq keys numbers 0 known row
  none_taken row is = record {
    only = λ q h. absurd (let e : is_member eq [] q ≡ true = subst (λ v. is_member eq v q ≡ true) is h in cc);
    all = λ q p. absurd (omega (arith, p.2));
    new = λ q h p. let e : is_member eq [] q ≡ true = subst (λ v. is_member eq v q ≡ true) is h in cc;
  }

  -- A run of numbers without a known one.
  pub run_taken : (i j : ℕ) (old new : List K) → i ≤ j → IsRowTo eq keys numbers i known old
      → TakesRun eq keys numbers i j old new
      → ((n : ℕ) → i ≤ n → n < j → get_or known.marks.items (get_or numbers n 0) 0 ≡ known.mark → ⊥)
      → IsRowTo eq keys numbers j known new
  run_taken i j old new le row run unknown = record {
    only = λ q h. elim (run.only q h) [
      | inl o ↦ let p = row.only q o in (p.0, p.1, omega (arith, p.2), p.3, p.4)
      | inr w ↦ (w.0, w.1, w.3, w.4, w.5)
    ];
    all = λ q p. elim (cases_lt p.0 i) [
      | inl lt ↦ elim (row.all q (p.0, p.1, lt, p.3, p.4)) [
        | inl m ↦ inl (run.stays q m)
        | inr is_known ↦ inr is_known
      ]
      | inr ge ↦ inl (run.has q (p.0, p.1, ge, p.2, p.3, p.4))
    ];
    new = λ q h p. elim (run.only q h) [
      | inl o ↦ row.new q o p
      | inr w ↦
          let same : get_or numbers w.0 0 ≡ p.0 = number_same laws keys unique (get_or numbers w.0 0) p.0 w.1 p.1 w.4 p.2
          (laws.congr w.1 q p.1 (laws.symm w.1 q ∙ w.5) ∙ p.4) in
          unknown w.0 w.2 w.3 (ap (λ y. get_or known.marks.items y 0) same ∙ p.3)
    ];
  }

  -- One number, whose key was appended unless it is known.
  pub key_taken : (n : ℕ) (key : K) (is_known : Bool) (old new : List K) → IsRowTo eq keys numbers n known old
      → slice_get keys (get_or numbers n 0) ≡ Some key → TakesKey eq key is_known old new
      → (is_known ≡ true → get_or known.marks.items (get_or numbers n 0) 0 ≡ known.mark)
      → (is_known ≡ false → get_or known.marks.items (get_or numbers n 0) 0 ≡ known.mark → ⊥)
      → IsRowTo eq keys numbers (n + 1) known new
  key_taken n key is_known old new row got takes marked unmarked = record {
    only = λ q h. elim (takes.only q h) [
      | inl o ↦ let p = row.only q o in (p.0, p.1, omega (arith, p.2), p.3, p.4)
      | inr s ↦ (n, key, omega arith, got, s.0)
    ];
    all = λ q p. elim (cases_eq p.0 n) [
      | inl same ↦
          let at : slice_get keys (get_or numbers n 0) ≡ Some p.1 =
          sym (ap (λ j. slice_get keys (get_or numbers j 0)) same) ∙ p.3 in
          let is : key ≡ p.1 = cc in
          elim (takes.has q (ap (eq q) is ∙ p.4)) [
            | inl m ↦ inl m
            | inr h ↦ inr (get_or numbers n 0, p.1, at, marked h, p.4)
          ]
      | inr ne ↦ elim (row.all q (p.0, p.1, omega (arith, p.2), p.3, p.4)) [
        | inl m ↦ inl (takes.stays q m)
        | inr is ↦ inr is
      ]
    ];
    new = λ q h p. elim (takes.only q h) [
      | inl o ↦ row.new q o p
      | inr s ↦
          let same : get_or numbers n 0 ≡ p.0 = number_same laws keys unique (get_or numbers n 0) p.0 key p.1 got p.2
          (laws.congr key q p.1 (laws.symm key q ∙ s.0) ∙ p.4) in
          unmarked s.1 (ap (λ y. get_or known.marks.items y 0) same ∙ p.3)
    ];
  }

  -- A known number was skipped.
  pub known_passed : (n : ℕ) (row : List K) → IsRowTo eq keys numbers n known row
      → get_or known.marks.items (get_or numbers n 0) 0 ≡ known.mark → IsRowTo eq keys numbers (n + 1) known row
  known_passed n row is marked = record {
    only = λ q h. let p = is.only q h in (p.0, p.1, omega (arith, p.2), p.3, p.4);
    all = λ q p. elim (cases_eq p.0 n) [
      | inl same ↦
          let at : get_or numbers p.0 0 ≡ get_or numbers n 0 = ap (λ m. get_or numbers m 0) same in
          inr (get_or numbers p.0 0, p.1, p.3, ap (λ y. get_or known.marks.items y 0) at ∙ marked, p.4)
      | inr ne ↦ is.all q (p.0, p.1, omega (arith, p.2), p.3, p.4)
    ];
    new = is.new;
  }
