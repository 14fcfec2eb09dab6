-- The order after an entry is removed.
use Rattle.std.proofs.Common.{◌≡◌, ◌∙◌, ◌+◌, ◌-◌, ◌<◌, ◌^◌, ℕ, Bool, true, false, not, ◌&&◌, ◌||◌, nat_eq, nat_lt}
use Rattle.std.proofs.Common.{List, ◌∷◌, ◌++◌, refl, sym, ap, arith, inl, inr}
use Rattle.std.specs.Prelude.{if◌then◌else◌}
use Rattle.std.specs.List.{list_any}
use Rattle.std.proofs.lemmas.Bool.{or_parts, or_from, eqb-false, eqb-true, ne_eqb, eq-eqb, lt-ltb, le-ltb, cases_lt}
use Rattle.cedar_linked_map.specs.Linked.{IsOrder, IsOrderWithout, end}
use Rattle.cedar_linked_map.proofs.Paths.{unlinked, moved, kept}
use Rattle.cedar_linked_map.proofs.Orders.{any_mid, length_mid, apart_mid, mid_apart, any_either}

-- The place of an entry is not the end.
pub not_end : (n u : ℕ) → n < 2 ^ 63 → u < n → nat_eq u end ≡ false
not_end n u small h = ne_eqb u end (λ e. absurd (omega (arith, small, h, e)))

and_right_true : (b : Bool) → (b && true) ≡ b
and_right_true true = refl
and_right_true false = refl

pub and_false : (b : Bool) → (b && false) ≡ false
and_false true = refl
and_false false = refl

-- The place of an entry is removed from the order.
pub gap_after : (n i : ℕ) (A B A1 B1 : ℕ → ℕ) (xs ys : List ℕ) → n < 2 ^ 63 → i < n → IsOrder n A B (xs ++ i ∷ ys)
    → ((u : ℕ) → A1 u ≡ (if nat_eq u (B i) then A i else A u)) → ((u : ℕ)
    → B1 u ≡ (if nat_eq u (A i) then B i else B u)) → IsOrderWithout n i A1 B1 (xs ++ ys)
gap_after n i A B A1 B1 xs ys small within order a b =
    let apart = apart_mid xs i ys order.apart in
    let ends = not_end n i small within in
    record {
      path = unlinked A B A1 B1 i a b end xs ys end ends apart.0 ends order.path;
      apart = apart.1;
      has = λ u. has_but u (nat_eq u i) refl;
      len = omega (arith, length_mid xs i ys, order.len);
    }
  where
    has_but : (u : ℕ) (c : Bool) → nat_eq u i ≡ c → list_any (nat_eq u) (xs ++ ys) ≡ (nat_lt u n && not (nat_eq u i))
    has_but u true k =
        ap (λ z. list_any (nat_eq z) (xs ++ ys)) (eqb-true u i k) ∙ (apart_mid xs i ys order.apart).0
        ∙ sym (ap (λ c. nat_lt u n && not c) k ∙ and_false (nat_lt u n))
    has_but u false k =
        sym (any_mid (nat_eq u) xs i ys ∙ ap (λ c. c || list_any (nat_eq u) (xs ++ ys)) k) ∙ order.has u
        ∙ sym (ap (λ c. nat_lt u n && not c) k ∙ and_right_true (nat_lt u n))

-- The places below `n`, except the last one.
one_less : (n u : ℕ) → 0 < n → (u ≡ n - 1 → ⊥) → nat_lt u n ≡ nat_lt u (n - 1)
one_less n u some ne =
    elim (cases_lt u (n - 1)) [
      | inl h ↦ lt-ltb u n (omega (arith, h)) ∙ sym (lt-ltb u (n - 1) h)
      | inr h ↦ le-ltb u n (omega (arith, h, ne, some)) ∙ sym (le-ltb u (n - 1) h)
    ]

-- The last place moves into the gap.
pub filled : (n i : ℕ) (A B A2 B2 A3 B3 : ℕ → ℕ) (us vs : List ℕ) → n < 2 ^ 63 → i + 1 < n
    → IsOrderWithout n i A B (us ++ (n - 1) ∷ vs)
    → ((u : ℕ) → nat_eq i u ≡ false → nat_eq (n - 1) u ≡ false → A2 u ≡ A u) → ((u : ℕ) → nat_eq i u ≡ false
    → nat_eq (n - 1) u ≡ false → B2 u ≡ B u)
    → A2 i ≡ A (n - 1) → B2 i ≡ B (n - 1)
    → ((u : ℕ) → A3 u ≡ (if nat_eq u (B2 i) then i else A2 u)) → ((u : ℕ)
    → B3 u ≡ (if nat_eq u (A2 i) then i else B2 u)) → IsOrder (n - 1) A3 B3 (us ++ i ∷ vs)
filled n i A B A2 B2 A3 B3 us vs small within gap a2 b2 ai bi a b =
    let m = n - 1 in
    let apart = apart_mid us m vs gap.apart in
    let none : list_any (nat_eq i) (us ++ m ∷ vs) ≡ false = gap.has i
    ∙ ap (λ c. nat_lt i n && not c) (eq-eqb i i refl) ∙ and_false (nat_lt i n) in
    let both = or_parts (nat_eq i m) (list_any (nat_eq i) (us ++ vs)) (sym (any_mid (nat_eq i) us m vs) ∙ none) in
    let i_end = not_end n i small (omega (arith, within)) in
    let m_end = not_end n m small (omega (arith, within)) in
    let ends = or_from (nat_eq i end) (nat_eq m end) i_end m_end in
    record {
      path = moved A B A2 B2 A3 B3 i m a2 b2 ai bi a b end us vs end ends (any_either i m (us ++ vs) both.1 apart.0)
          ends gap.path;
      apart = mid_apart us i vs both.1 apart.1;
      has = λ u. has_now u (nat_eq u i) refl (nat_eq u m) refl;
      len = omega (arith, length_mid us i vs, length_mid us m vs, gap.len);
    }
  where
    has_now : (u : ℕ) (c : Bool) → nat_eq u i ≡ c → (d : Bool) → nat_eq u (n - 1) ≡ d
        → list_any (nat_eq u) (us ++ i ∷ vs) ≡ nat_lt u (n - 1)
    has_now u true k d l =
        any_mid (nat_eq u) us i vs ∙ ap (λ c. c || list_any (nat_eq u) (us ++ vs)) k
        ∙ sym (lt-ltb u (n - 1) (omega (arith, eqb-true u i k, within)))
    has_now u false k true l =
        any_mid (nat_eq u) us i vs ∙ ap (λ c. c || list_any (nat_eq u) (us ++ vs)) k
        ∙ ap (λ z. list_any (nat_eq z) (us ++ vs)) (eqb-true u (n - 1) l) ∙ (apart_mid us (n - 1) vs gap.apart).0
        ∙ sym (le-ltb u (n - 1) (omega (arith, eqb-true u (n - 1) l)))
    has_now u false k false l =
        any_mid (nat_eq u) us i vs ∙ ap (λ c. c || list_any (nat_eq u) (us ++ vs)) k
        ∙ sym (any_mid (nat_eq u) us (n - 1) vs ∙ ap (λ c. c || list_any (nat_eq u) (us ++ vs)) l)
        ∙ gap.has u ∙ ap (λ c. nat_lt u n && not c) k ∙ and_right_true (nat_lt u n)
        ∙ one_less n u (omega (arith, within)) (eqb-false u (n - 1) l)

-- The gap is the last place.
pub cut_off : (n i : ℕ) (A B A3 B3 : ℕ → ℕ) (o : List ℕ) → n < 2 ^ 63 → i + 1 ≡ n → IsOrderWithout n i A B o
    → ((u : ℕ) → nat_eq i u ≡ false → A3 u ≡ A u) → ((u : ℕ) → nat_eq i u ≡ false → B3 u ≡ B u)
    → IsOrder (n - 1) A3 B3 o
cut_off n i A B A3 B3 o small last gap a b =
    let none : list_any (nat_eq i) o ≡ false = gap.has i ∙ ap (λ c. nat_lt i n && not c) (eq-eqb i i refl)
    ∙ and_false (nat_lt i n) in
    let ends = not_end n i small (omega (arith, last)) in
    record {
      path = kept A B A3 B3 (nat_eq i) (λ u v bu bv j. (a u bu ∙ j.0, b v bv ∙ j.1)) end o end ends none ends gap.path;
      apart = gap.apart;
      has = λ u. gap.has u ∙ now u (nat_eq u i) refl;
      len = omega (arith, gap.len);
    }
  where
    now : (u : ℕ) (c : Bool) → nat_eq u i ≡ c → (nat_lt u n && not (nat_eq u i)) ≡ nat_lt u (n - 1)
    now u true k = ap (λ c. nat_lt u n && not c) k ∙ and_false (nat_lt u n)
        ∙ sym (le-ltb u (n - 1) (omega (arith, eqb-true u i k, last)))
    now u false k =
        ap (λ c. nat_lt u n && not c) k ∙ and_right_true (nat_lt u n)
        ∙ elim (cases_lt u (n - 1)) [
          | inl h ↦ lt-ltb u n (omega (arith, h)) ∙ sym (lt-ltb u (n - 1) h)
          | inr h ↦ le-ltb u n (omega (arith, h, eqb-false u i k, last)) ∙ sym (le-ltb u (n - 1) h)
        ]
