-- Graphs in which each number is a component of its own.
use Rattle.std.proofs.Common.{◌≡◌, ◌≢◌, ℕ, ◌+◌, ◌-◌, ◌<◌, ◌≤◌, inl, inr, List, length, get_or, set}
use Rattle.std.proofs.Common.{sym, ap, subst, ◌∙◌, arith, get_or-set_same, get_or-set_other}
use Rattle.std.proofs.lemmas.Bool.{cases_eq}
use Rattle.cedar_components.specs.Reach.{HasArc, Leads}
use Rattle.cedar_components.specs.laws.Components.{AreComponents, AreSingle, NoneLeadsUp}
use Rattle.cedar_components.proofs.Steps.{Leads-refl}

-- The number at one more index of the order gets its component.
module _ (n : ℕ) (order component : List ℕ) (i : ℕ) (len : length component ≡ n) (inside : get_or order i 0 < n)
    (bound : i < length order) where
  at_place : (y : ℕ) → y ≡ get_or order i 0 → get_or (set component (get_or order i 0) (i + 1)) y 0 ≡ i + 1
  at_place y e = ap (λ v. get_or (set component (get_or order i 0) (i + 1)) v 0) e
      ∙ get_or-set_same component (get_or order i 0) (i + 1) 0 (omega (arith, len))

  at_other : (y : ℕ) → y ≢ get_or order i 0
      → get_or (set component (get_or order i 0) (i + 1)) y 0 ≡ get_or component y 0
  at_other y ne = get_or-set_other component (get_or order i 0) y (i + 1) 0 ne

  pub single_within : ((k : ℕ) → k < i
      → (0 < get_or component (get_or order k 0) 0) × (get_or component (get_or order k 0) 0 ≤ length order))
      → (k : ℕ) → k < i + 1
      → (0 < get_or (set component (get_or order i 0) (i + 1)) (get_or order k 0) 0)
      × (get_or (set component (get_or order i 0) (i + 1)) (get_or order k 0) 0 ≤ length order)
  single_within was k l = elim (cases_eq (get_or order k 0) (get_or order i 0)) [
    | inl e ↦ (omega (arith, at_place (get_or order k 0) e), omega (arith, at_place (get_or order k 0) e))
    | inr ne ↦ elim (cases_eq k i) [
      | inl same ↦ absurd (ne (ap (λ v. get_or order v 0) same))
      | inr apart ↦
          let w = was k (omega (arith, apart)) in
          (omega (arith, at_other (get_or order k 0) ne, w.0), omega (arith, at_other (get_or order k 0) ne, w.1))
    ]
  ]

  pub single_stands : ((k : ℕ) → k < i
      → get_or order (get_or component (get_or order k 0) 0 - 1) 0 ≡ get_or order k 0)
      → (k : ℕ) → k < i + 1
      → get_or order (get_or (set component (get_or order i 0) (i + 1)) (get_or order k 0) 0 - 1) 0 ≡ get_or order k 0
  single_stands was k l = elim (cases_eq (get_or order k 0) (get_or order i 0)) [
    | inl e ↦
        let before : get_or (set component (get_or order i 0) (i + 1)) (get_or order k 0) 0 - 1 ≡ i =
        omega (arith, at_place (get_or order k 0) e) in
        ap (λ v. get_or order v 0) before ∙ sym e
    | inr ne ↦ elim (cases_eq k i) [
      | inl same ↦ absurd (ne (ap (λ v. get_or order v 0) same))
      | inr apart ↦
          ap (λ v. get_or order (v - 1) 0) (at_other (get_or order k 0) ne) ∙ was k (omega (arith, apart))
    ]
  ]

-- If no arc leads to a higher component, each number is a component of its own.
pub single_are_components : (n : ℕ) (from to order component : List ℕ) → AreSingle n order component
    → NoneLeadsUp from to component → AreComponents (HasArc from to) n (length order) component
single_are_components n from to order component s down = record {
  component_len = s.len;
  component_in = s.within;
  mutual_ = λ x y h k e.
      let same : x ≡ y = sym (s.stands x h) ∙ ap (λ v. get_or order (v - 1) 0) e ∙ s.stands y k in
      subst (Leads (HasArc from to) x) same (Leads-refl (HasArc from to) x);
  down = λ x y h k e.
      let le = down e.0 e.1 in
      omega (arith, le, ap (λ v. get_or component v 0) e.2, ap (λ v. get_or component v 0) e.3);
}
