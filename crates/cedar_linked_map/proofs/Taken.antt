-- The table and the order after an entry is removed.
use Rattle.std.proofs.Common.{◌≡◌, ◌∙◌, ◌+◌, ◌-◌, ◌<◌, ◌^◌, ℕ, zero, suc, true, false, not, ◌&&◌, nat_eq, nat_lt}
use Rattle.std.proofs.Common.{List, [], ◌∷◌, ◌++◌, length, take, get_or, Some, slice_get, slice_set, refl, sym, ap}
use Rattle.std.proofs.Common.{subst, arith, true≢false, inl, inr}
use Rattle.std.specs.Prelude.{if◌then◌else◌}
use Rattle.std.specs.List.{list_any, swap_remove}
use Rattle.std.specs.Option.{option_map, option_map_or}
use Rattle.std.proofs.lemmas.Bool.{or_parts, or_right, and_parts, eqb-false, ne_eqb, eq-eqb, cond-true, cond-false}
use Rattle.std.proofs.lemmas.Bool.{ltb-true, lt-ltb, le-ltb, cases_lt}
use Rattle.std.proofs.lemmas.Option.{slice_get-map, slice_get_past, slice_get-get_or}
use Rattle.std.proofs.lemmas.List.{length-map, length-take, length-set}
use Rattle.cedar_linked_map.specs.declared.chain.Node.{Node}
use Rattle.cedar_linked_map.specs.Linked.{AreDistinct, IsPath, IsPlaceOrEnd, IsOrder, IsOrderWithout, AreLinked}
use Rattle.cedar_linked_map.specs.Linked.{RemovesItem, in_order, picked, walk, cells, after_at, before_at, after_of}
use Rattle.cedar_linked_map.specs.Linked.{before_of, end}
use Rattle.cedar_linked_map.proofs.Paths.{is_either, parted, any_parts}
use Rattle.cedar_linked_map.proofs.Orders.{any_mid, any_left, any_right, split_at, apart_mid, any_either, picked_mid}
use Rattle.cedar_linked_map.proofs.Orders.{picked-append, picked_kept, walk_picked, some_below, before_is, after_is}
use Rattle.cedar_linked_map.proofs.Removed.{not_end, gap_after, filled, cut_off, and_false}

pub take_get : {X : Type 0} (k : ℕ) (l : List X) (u : ℕ) → u < k → slice_get (take k l) u ≡ slice_get l u
take_get zero l u h = absurd (omega (arith, h))
take_get (suc k) [] u h = refl
take_get (suc k) (x ∷ l) zero h = refl
take_get (suc k) (x ∷ l) (suc u) h = take_get k l u (omega (arith, h))

set_get_other : {X : Type 0} (l : List X) (i : ℕ) (a : X) (u : ℕ) → (u ≡ i → ⊥)
    → slice_get (slice_set l i a) u ≡ slice_get l u
set_get_other [] i a u ne = refl
set_get_other (x ∷ l) zero a zero ne = absurd (ne refl)
set_get_other (x ∷ l) zero a (suc u) ne = refl
set_get_other (x ∷ l) (suc i) a zero ne = refl
set_get_other (x ∷ l) (suc i) a (suc u) ne = set_get_other l i a u (λ h. ne (ap suc h))

set_get_same : {X : Type 0} (l : List X) (i : ℕ) (a : X) → i < length l → slice_get (slice_set l i a) i ≡ Some a
set_get_same [] i a h = absurd (omega (arith, h))
set_get_same (x ∷ l) zero a h = refl
set_get_same (x ∷ l) (suc i) a h = set_get_same l i a (omega (arith, h))

module _ {X : Type 0} (l : List X) (i : ℕ) (d : X) where
  pub swap_length : length (swap_remove l i d) ≡ length l - 1
  swap_length = omega (
    arith,
    length-take (length l - 1) (slice_set l i (get_or l (length l - 1) d)),
    length-set l i
        (get_or l (length l - 1) d),
  )

  -- Items that are neither removed nor moved.
  pub swap_other : (u : ℕ) → (u ≡ i → ⊥) → (u ≡ length l - 1 → ⊥) → slice_get (swap_remove l i d) u ≡ slice_get l u
  swap_other u ne nl =
      elim (cases_lt u (length l - 1)) [
        | inl h ↦ take_get (length l - 1) (slice_set l i (get_or l (length l - 1) d)) u h
            ∙ set_get_other l i (get_or l (length l - 1) d) u ne
        | inr h ↦ slice_get_past (swap_remove l i d) u (omega (arith, swap_length, h))
            ∙ sym (slice_get_past l u (omega (arith, h, nl)))
      ]

  -- The last item, which is moved.
  pub swap_at : i + 1 < length l → slice_get (swap_remove l i d) i ≡ slice_get l (length l - 1)
  swap_at h =
      take_get (length l - 1) (slice_set l i (get_or l (length l - 1) d)) i (omega (arith, h))
      ∙ set_get_same l i (get_or l (length l - 1) d) (omega (arith, h))
      ∙ sym (slice_get-get_or l (length l - 1) d (omega (arith, h)))

module _ {K V : Type 0} where
  pub length_cells : (ns : List (K × Node V)) → length (cells ns) ≡ length ns
  length_cells ns = length-map ns (λ e. (e.0, e.1.value))

  pub cell_at : (ns : List (K × Node V)) (u : ℕ) → slice_get (cells ns) u ≡ option_map (λ e. (e.0, e.1.value))
      (slice_get ns u)
  cell_at ns u = slice_get-map (λ e. (e.0, e.1.value)) ns u

  pub after_is_at : (ns : List (K × Node V)) (first u : ℕ) → nat_eq u end ≡ false → after_of ns first u ≡ after_at ns u
  after_is_at ns first u h = cond-false (nat_eq u end) first (after_at ns u) h

  pub before_is_at : (ns : List (K × Node V)) (last u : ℕ) → nat_eq u end ≡ false → before_of ns last u ≡ before_at ns u
  before_is_at ns last u h = cond-false (nat_eq u end) last (before_at ns u) h

  -- The ordered entries are the entries at the places of the order.
  pub in_order_is : (ns : List (K × Node V)) (first last : ℕ) (o : List ℕ) → length ns < 2 ^ 63
      → IsOrder (length ns) (after_of ns first) (before_of ns last) o
      → in_order ns first ≡ picked (cells ns) o
  in_order_is ns first last o small order =
      let same : after_of ns first end ≡ first = cond-true (nat_eq end end) first (after_at ns end) (eq-eqb end end
      refl) in
      let walked : walk (length o) (cells ns) (after_at ns) (after_of ns first end) ≡ picked (cells ns) o =
      walk_picked (cells ns) (after_of ns first) (before_of ns last) (after_at ns)
      (λ u h. sym (after_is_at ns first u (not_end (length ns) u small (omega (arith, h, length_cells ns)))))
      end o end order.path (λ u h. omega (arith, length_cells ns, ltb-true u (length ns) (sym (order.has u) ∙ h))) in
      ap (λ n. walk n (cells ns) (after_at ns) first) (sym order.len)
      ∙ ap (walk (length o) (cells ns) (after_at ns)) (sym same) ∙ walked

  -- The neighbours of a place of the order.
  module _ (ns : List (K × Node V)) (first last : ℕ) (small : length ns < 2 ^ 63) where
    seat_before : (n : ℕ) (s : ℕ) (xs : List ℕ) (i : ℕ) → i < length ns → IsPlaceOrEnd n s → ((u : ℕ)
        → list_any (nat_eq u) xs ≡ true → u < n)
        → IsPath (after_of ns first) (before_of ns last) s xs i → IsPlaceOrEnd n (before_at ns i)
    seat_before n s xs i within at all p =
        subst (IsPlaceOrEnd n) (before_is_at ns last i (not_end (length ns) i small within))
        (before_is (after_of ns first) (before_of ns last) (IsPlaceOrEnd n) s xs i at (λ u h. inl (all u h)) p)

    seat_after : (n : ℕ) (ys : List ℕ) (e i : ℕ) → i < length ns → IsPlaceOrEnd n e → ((u : ℕ)
        → list_any (nat_eq u) ys ≡ true → u < n)
        → IsPath (after_of ns first) (before_of ns last) i ys e → IsPlaceOrEnd n (after_at ns i)
    seat_after n ys e i within at all p =
        subst (IsPlaceOrEnd n) (after_is_at ns first i (not_end (length ns) i small within))
        (after_is (after_of ns first) (before_of ns last) (IsPlaceOrEnd n) i ys e at (λ u h. inl (all u h)) p)

    pub seats : (i : ℕ) → i < length ns → AreLinked ns first last
        → IsPlaceOrEnd (length ns) (before_at ns i) × IsPlaceOrEnd (length ns) (after_at ns i)
    seats i within linked =
        let order = linked.1 in
        let at = split_at i linked.0 (order.has i ∙ lt-ltb i (length ns) within) in
        let parts = parted (after_of ns first) (before_of ns last) end at.0 i at.1 end
        (subst (λ o. IsPath (after_of ns first) (before_of ns last) end o end) at.2 order.path) in
        let inside = λ (u : ℕ) (h : list_any (nat_eq u) (at.0 ++ i ∷ at.1) ≡ true).
        ltb-true u (length ns) (sym (order.has u) ∙ ap (list_any (nat_eq u)) at.2 ∙ h) in (
          seat_before (length ns) end at.0 i within (inr refl) (λ u h. inside u (any_left (nat_eq u) at.0 (i ∷ at.1)
              h)) parts.0,
          seat_after (length ns) at.1 end i within (inr refl) (λ u h. inside u (any_right (nat_eq u) at.0 (i ∷ at.1)
              (or_right (nat_eq u i) (list_any (nat_eq u) at.1) h))) parts.1,
        )

    -- The neighbours of the last place, if another place is a gap.
    pub gap_seats : (i : ℕ) (o : List ℕ) → i + 1 < length ns
        → IsOrderWithout (length ns) i (after_of ns first) (before_of ns last) o
        → IsPlaceOrEnd (length ns - 1) (before_at ns (length ns - 1))
        × IsPlaceOrEnd (length ns - 1) (after_at ns (length ns - 1))
    gap_seats i o within gap =
        let n = length ns in
        let m = n - 1 in
        let there : list_any (nat_eq m) o ≡ true =
        gap.has m ∙ ap (λ c. nat_lt m n && not c) (ne_eqb m i (λ e. absurd (omega (arith, within, e))))
        ∙ ap (λ c. c && true) (lt-ltb m n (omega (arith, within))) in
        let at = split_at m o there in
        let apart = apart_mid at.0 m at.1 (subst AreDistinct at.2 gap.apart) in
        let parts = parted (after_of ns first) (before_of ns last) end at.0 m at.1 end
        (subst (λ l. IsPath (after_of ns first) (before_of ns last) end l end) at.2 gap.path) in
        let below = λ (u : ℕ) (h : list_any (nat_eq u) (at.0 ++ at.1)
        ≡ true) (k : list_any (nat_eq u) (at.0 ++ m ∷ at.1) ≡ true).
        not_last u at.0 at.1 (ltb-true u n (and_parts (nat_lt u n) (not (nat_eq u i)) (sym (gap.has u)
        ∙ ap (list_any (nat_eq u)) at.2 ∙ k)).0) apart.0 h in (
          seat_before m end at.0 m (omega (arith, within)) (inr refl)
              (λ u h. below u (any_left (nat_eq u) at.0 at.1 h) (any_left (nat_eq u) at.0 (m ∷ at.1) h)) parts.0,
          seat_after m at.1 end m (omega (arith, within)) (inr refl)
              (λ u h. below u (any_right (nat_eq u) at.0 at.1 h) (any_right (nat_eq u) at.0 (m ∷ at.1) (or_right
              (nat_eq u m) (list_any (nat_eq u) at.1) h))) parts.1,
        )
      where
        not_last : (u : ℕ) (xs ys : List ℕ) → u < length ns
            → list_any (nat_eq (length ns - 1)) (xs ++ ys) ≡ false → list_any (nat_eq u) (xs ++ ys) ≡ true
            → u < length ns - 1
        not_last u xs ys h none some =
            elim (cases_lt u (length ns - 1)) [
              | inl k ↦ k
              | inr k ↦
                  let last : u ≡ length ns - 1 = omega (arith, h, k) in
                  absurd (true≢false (sym some ∙ ap (λ z. list_any (nat_eq z) (xs ++ ys)) last ∙ none))
            ]

-- The removal of an entry. Its neighbours are linked, the last entry moves to its place, and the neighbours of the moved
-- entry are linked to the new place.
module _ {K V : Type 0} (ns ns1 ns2 ns3 : List (K × Node V)) (first last first1 last1 first3 last3 i : ℕ) (p : K
    × Node V)
    (small : length ns < 2 ^ 63) (within : i < length ns) (linked : AreLinked ns first last)
    (a1 : (u : ℕ) → after_of ns1 first1 u ≡ (if nat_eq u (before_at ns i) then after_at ns i else after_of ns first u))
    (b1 : (u : ℕ) → before_of ns1 last1 u ≡ (if nat_eq u (after_at ns i) then before_at ns i else before_of ns last u))
    (c1 : cells ns1 ≡ cells ns) (at : slice_get ns1 i ≡ Some p) (s2 : ns2 ≡ swap_remove ns1 i p) where
  n1 : length ns1 ≡ length ns
  n1 = sym (length_cells ns1) ∙ ap length c1 ∙ length_cells ns

  pub n2 : length ns2 ≡ length ns - 1
  n2 = ap length s2 ∙ swap_length ns1 i p ∙ ap (λ n. n - 1) n1

  i_end : nat_eq i end ≡ false
  i_end = not_end (length ns) i small within

  pub parts_at : (xs : List ℕ) × (ys : List ℕ) × (linked.0 ≡ xs ++ i ∷ ys)
  parts_at = split_at i linked.0 (linked.1.has i ∙ lt-ltb i (length ns) within)

  pub gap : IsOrderWithout (length ns1) i (after_of ns1 first1) (before_of ns1 last1) (parts_at.0 ++ parts_at.1)
  gap =
      subst (λ n. IsOrderWithout n i (after_of ns1 first1) (before_of ns1 last1) (parts_at.0 ++ parts_at.1)) (sym n1)
      (gap_after (length ns) i (after_of ns first) (before_of ns last) (after_of ns1 first1) (before_of ns1 last1)
      parts_at.0 parts_at.1 small within
      (subst (IsOrder (length ns) (after_of ns first) (before_of ns last)) parts_at.2 linked.1)
      (λ u. a1 u ∙ (λ j. if nat_eq u (sym (before_is_at ns last i i_end) j) then sym (after_is_at ns first i i_end) j
      else after_of ns first u))
      (λ u. b1 u ∙ (λ j. if nat_eq u (sym (after_is_at ns first i i_end) j) then sym (before_is_at ns last i i_end) j
      else before_of ns last u)))

  -- The neighbours of the moved entry.
  pub after_moved : i < length ns2 → after_at ns2 i ≡ after_at ns1 (length ns1 - 1)
  after_moved h =
      ap (λ l. after_at l i) s2
      ∙ ap (λ o. option_map_or (λ e. e.1.after) o 0) (swap_at ns1 i p (omega (arith, n1, n2, h)))

  pub before_moved : i < length ns2 → before_at ns2 i ≡ before_at ns1 (length ns1 - 1)
  before_moved h =
      ap (λ l. before_at l i) s2
      ∙ ap (λ o. option_map_or (λ e. e.1.before) o 0) (swap_at ns1 i p (omega (arith, n1, n2, h)))

  pub fill_seats : i < length ns2 → IsPlaceOrEnd (length ns2) (before_at ns2 i) × IsPlaceOrEnd (length ns2) (after_at
      ns2 i)
  fill_seats h =
      let more : i + 1 < length ns1 = omega (arith, n1, n2, h) in
      let seats = gap_seats ns1 first1 last1 (omega (arith, n1, small)) i (parts_at.0 ++ parts_at.1) more gap in
      let same : length ns1 - 1 ≡ length ns2 = omega (arith, n1, n2) in (
        subst (λ n. IsPlaceOrEnd n (before_at ns2 i)) same (subst (IsPlaceOrEnd (length ns1 - 1)) (sym (before_moved
            h)) seats.0),
        subst (λ n. IsPlaceOrEnd n (after_at ns2 i)) same (subst (IsPlaceOrEnd (length ns1 - 1)) (sym (after_moved
            h)) seats.1),
      )

  module _ (a3 : (u : ℕ) → after_of ns3 first3 u ≡ (if nat_lt i (length ns2) && nat_eq u (before_at ns2 i) then i
      else after_of ns2 first1 u))
      (b3 : (u : ℕ) → before_of ns3 last3 u ≡ (if nat_lt i (length ns2) && nat_eq u (after_at ns2 i) then i else
      before_of ns2 last1 u))
      (c3 : cells ns3 ≡ cells ns2) where
    n3 : length ns3 ≡ length ns - 1
    n3 = sym (length_cells ns3) ∙ ap length c3 ∙ length_cells ns2 ∙ n2

    -- Entries that are neither removed nor moved.
    cell_kept : (u : ℕ) → (u ≡ i → ⊥) → (u ≡ length ns - 1 → ⊥) → slice_get (cells ns3) u ≡ slice_get (cells ns) u
    cell_kept u ne nl =
        ap (λ l. slice_get l u) (c3 ∙ ap cells s2) ∙ cell_at (swap_remove ns1 i p) u
        ∙ ap (option_map (λ e. (e.0, e.1.value))) (swap_other ns1 i p u ne (λ h. nl (h ∙ ap (λ n. n - 1) n1)))
        ∙ sym (cell_at ns1 u) ∙ ap (λ l. slice_get l u) c1

    cell_moved : i + 1 < length ns → slice_get (cells ns3) i ≡ slice_get (cells ns) (length ns - 1)
    cell_moved h =
        ap (λ l. slice_get l i) (c3 ∙ ap cells s2) ∙ cell_at (swap_remove ns1 i p) i
        ∙ ap (option_map (λ e. (e.0, e.1.value))) (swap_at ns1 i p (omega (arith, n1, h)))
        ∙ sym (cell_at ns1 (length ns1 - 1)) ∙ (λ j. slice_get (c1 j) (n1 j - 1))

    pub cell_gone : slice_get (cells ns) i ≡ Some (p.0, p.1.value)
    cell_gone = ap (λ l. slice_get l i) (sym c1) ∙ cell_at ns1 i ∙ ap (option_map (λ e. (e.0, e.1.value))) at

    after_other : (u : ℕ) → nat_eq i u ≡ false → nat_eq (length ns1 - 1) u ≡ false
        → after_of ns2 first1 u ≡ after_of ns1 first1 u
    after_other u h k =
        ap (λ l. after_of l first1 u) s2
        ∙ ap (λ o. if nat_eq u end then first1 else option_map_or (λ e. e.1.after) o 0)
        (swap_other ns1 i p u (λ e. eqb-false i u h (sym e)) (λ e. eqb-false (length ns1 - 1) u k (sym e)))

    before_other : (u : ℕ) → nat_eq i u ≡ false → nat_eq (length ns1 - 1) u ≡ false
        → before_of ns2 last1 u ≡ before_of ns1 last1 u
    before_other u h k =
        ap (λ l. before_of l last1 u) s2
        ∙ ap (λ o. if nat_eq u end then last1 else option_map_or (λ e. e.1.before) o 0)
        (swap_other ns1 i p u (λ e. eqb-false i u h (sym e)) (λ e. eqb-false (length ns1 - 1) u k (sym e)))

    -- An order with the items of the old one, except the removed entry.
    Left : Type 0
    Left = (o : List ℕ) × IsOrder (length ns3) (after_of ns3 first3) (before_of ns3 last3) o
        × (picked (cells ns3) o ≡ picked (cells ns) (parts_at.0 ++ parts_at.1))

    left_filled : i + 1 < length ns → Left
    unfolding Left
    left_filled h =
        let o1 = parts_at.0 ++ parts_at.1 in
        let m = length ns1 - 1 in
        let there : list_any (nat_eq m) o1 ≡ true =
        gap.has m ∙ ap (λ c. nat_lt m (length ns1) && not c) (ne_eqb m i (λ e. absurd (omega (arith, n1, h, e))))
        ∙ ap (λ c. c && true) (lt-ltb m (length ns1) (omega (arith, n1, h))) in
        let s = split_at m o1 there in
        let gap' = subst (IsOrderWithout (length ns1) i (after_of ns1 first1) (before_of ns1 last1)) s.2 gap in
        let more : i < length ns2 = omega (arith, n2, h) in
        let is_more = lt-ltb i (length ns2) more in
        let m_end = not_end (length ns1) m (omega (arith, n1, small)) (omega (arith, n1, h)) in
        let order = filled (length ns1) i (after_of ns1 first1) (before_of ns1 last1) (after_of ns2 first1)
        (before_of ns2 last1) (after_of ns3 first3) (before_of ns3 last3)
        s.0 s.1 (omega (arith, n1, small)) (omega (arith, n1, h)) gap' after_other before_other
        (after_is_at ns2 first1 i i_end ∙ after_moved more ∙ sym (after_is_at ns1 first1 m m_end))
        (before_is_at ns2 last1 i i_end ∙ before_moved more ∙ sym (before_is_at ns1 last1 m m_end))
        (λ u. a3 u ∙ (λ j. if is_more j && nat_eq u (sym (before_is_at ns2 last1 i i_end) j) then i else after_of ns2
        first1 u))
        (λ u. b3 u ∙ (λ j. if is_more j && nat_eq u (sym (after_is_at ns2 first1 i i_end) j) then i else before_of
        ns2 last1 u)) in
        let apart = apart_mid s.0 m s.1 gap'.apart in
        let none : list_any (nat_eq i) (s.0 ++ m ∷ s.1) ≡ false = gap'.has i
        ∙ ap (λ c. nat_lt i (length ns1) && not c) (eq-eqb i i refl) ∙ and_false (nat_lt i (length ns1)) in
        let without = or_parts (nat_eq i m) (list_any (nat_eq i) (s.0 ++ s.1)) (sym (any_mid (nat_eq i) s.0 m s.1) ∙
        none) in
        let bad = any_parts (is_either i m) s.0 s.1 (any_either i m (s.0 ++ s.1) without.1 apart.0) in
        let kept = λ (u : ℕ) (b : is_either i m u ≡ false).
        (let both = or_parts (nat_eq i u) (nat_eq m u) b in
        cell_kept u (λ e. eqb-false i u both.0 (sym e)) (λ e. eqb-false m u both.1 (ap (λ n. n - 1) n1 ∙ sym e))) in
        let c = some_below (cells ns) (length ns - 1) (omega (arith, length_cells ns, h)) in (
          s.0 ++ i ∷ s.1,
          subst (λ n. IsOrder n (after_of ns3 first3) (before_of ns3 last3) (s.0 ++ i ∷ s.1)) (ap (λ n. n - 1) n1
              ∙ sym n3) order,
          picked_mid (cells ns3) s.0 i s.1 c.0 (cell_moved h ∙ c.1)
              ∙ (λ j. picked_kept (cells ns) (cells ns3) (is_either i m) kept s.0 bad.0 j ++ c.0 ∷ picked_kept (cells
              ns) (cells ns3) (is_either i m) kept s.1 bad.1 j)
              ∙ sym (picked_mid (cells ns) s.0 m s.1 c.0 (ap (λ n. slice_get (cells ns) (n - 1)) n1 ∙ c.1))
              ∙ ap (picked (cells ns)) (sym s.2),
        )

    left_cut : i + 1 ≡ length ns → Left
    unfolding Left
    left_cut h =
        let o1 = parts_at.0 ++ parts_at.1 in
        let no_more = le-ltb i (length ns2) (omega (arith, n2, h)) in
        let other = λ (u : ℕ) (b : nat_eq i u ≡ false). (λ (e : length ns1 - 1
        ≡ u). eqb-false i u b (omega (arith, n1, h, e))) in
        let order = cut_off (length ns1) i (after_of ns1 first1) (before_of ns1 last1) (after_of ns3 first3)
        (before_of ns3 last3) o1
        (omega (arith, n1, small)) (omega (arith, n1, h)) gap
        (λ u b. a3 u ∙ ap (λ t. if t && nat_eq u (before_at ns2 i) then i else after_of ns2 first1 u) no_more
        ∙ after_other u b (ne_eqb (length ns1 - 1) u (other u b)))
        (λ u b. b3 u ∙ ap (λ t. if t && nat_eq u (after_at ns2 i) then i else before_of ns2 last1 u) no_more
        ∙ before_other u b (ne_eqb (length ns1 - 1) u (other u b))) in
        let none : list_any (nat_eq i) o1 ≡ false = gap.has i
        ∙ ap (λ c. nat_lt i (length ns1) && not c) (eq-eqb i i refl) ∙ and_false (nat_lt i (length ns1)) in (
          o1,
          subst (λ n. IsOrder n (after_of ns3 first3) (before_of ns3 last3) o1) (ap (λ n. n - 1) n1 ∙ sym n3) order,
          picked_kept (cells ns) (cells ns3) (nat_eq i)
              (λ u b. cell_kept u (λ e. eqb-false i u b (sym e)) (λ e. other u b (ap (λ n. n - 1) n1 ∙ sym e))) o1 none,
        )

    left : Left
    left =
        elim (cases_lt (i + 1) (length ns)) [
          | inl h ↦ left_filled h
          | inr h ↦ left_cut (omega (arith, within, h))
        ]

    pub linked_after : AreLinked ns3 first3 last3
    unfolding Left
    linked_after = (left.0, left.1)

    pub taken_out : RemovesItem (in_order ns first) (p.0, p.1.value) (in_order ns3 first3)
    unfolding Left
    taken_out = (
      picked (cells ns) parts_at.0,
      picked (cells ns) parts_at.1,
      in_order_is ns first last linked.0 small linked.1 ∙ ap (picked (cells ns)) parts_at.2
          ∙ picked_mid (cells ns) parts_at.0 i parts_at.1 (p.0, p.1.value) cell_gone,
      in_order_is ns3 first3 last3 left.0 (omega (arith, n3, small)) left.1 ∙ left.2
          ∙ picked-append (cells ns) parts_at.0 parts_at.1,
    )

-- One step of a walk.
pub walk_step : {K V : Type 0} (left : ℕ) (ns : List (K × Node V)) (u : ℕ) (k : K) (n : Node V) → (left ≡ 0 → ⊥)
    → Some (k, n) ≡ slice_get ns u
    → walk left (cells ns) (after_at ns) u ≡ (k, n.value) ∷ walk (left - 1) (cells ns) (after_at ns) n.after
walk_step zero ns u k n some at = absurd (some refl)
walk_step (suc l) ns u k n some at =
    ap (λ o. option_map_or (λ e. e ∷ walk l (cells ns) (after_at ns) (after_at ns u)) o []) (cell_at ns u
    ∙ ap (option_map (λ e. (e.0, e.1.value))) (sym at))
    ∙ ap (λ z. (k, n.value) ∷ walk l (cells ns) (after_at ns) z) (ap (λ o. option_map_or (λ e. e.1.after) o 0) (sym at))
    ∙ ap (λ z. (k, n.value) ∷ walk z (cells ns) (after_at ns) n.after) (omega arith)
