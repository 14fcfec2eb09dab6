-- The order after a new key is appended.
use Rattle.std.proofs.Common.{◌≡◌, ◌∙◌, ◌+◌, ◌<◌, ◌≤◌, ◌^◌, ℕ, zero, suc, Bool, true, false, ◌||◌, nat_eq, nat_lt}
use Rattle.std.proofs.Common.{List, [], ◌∷◌, ◌++◌, length, Some, slice_get, refl, sym, ap, subst, arith, inl, inr}
use Rattle.std.specs.Prelude.{if◌then◌else◌}
use Rattle.std.specs.List.{list_any}
use Rattle.std.specs.Option.{option_map, option_map_or}
use Rattle.std.proofs.lemmas.Bool.{or_parts, eqb-false, eqb-true, ne_eqb, eq-eqb, cond-true, cond-false, ltb-true}
use Rattle.std.proofs.lemmas.Bool.{lt-ltb, le-ltb, cases_lt}
use Rattle.std.proofs.lemmas.List.{length-append, append-nil}
use Rattle.cedar_linked_map.specs.declared.chain.Node.{Node}
use Rattle.cedar_linked_map.specs.Linked.{AreDistinct, AreNeighbours, IsPath, IsPlaceOrEnd, IsOrder, AreLinked}
use Rattle.cedar_linked_map.specs.Linked.{in_order, cells, before_at, after_of, before_of, end}
use Rattle.cedar_linked_map.proofs.Nodes.{noted_end}
use Rattle.cedar_linked_map.proofs.Paths.{is_either, glued, good_before, before_back}
use Rattle.cedar_linked_map.proofs.Orders.{any_mid, length_mid, mid_apart, any_either, picked_mid, picked_kept}
use Rattle.cedar_linked_map.proofs.Orders.{before_is, eq_flip}
use Rattle.cedar_linked_map.proofs.Taken.{in_order_is, length_cells, cell_at, after_is_at, before_is_at}

-- A path whose end changes.
to_new_end : (A B A' B' : ℕ → ℕ) (bad worse : ℕ → Bool) → ((u v : ℕ) → bad u ≡ false → worse v ≡ false
    → AreNeighbours A B u v → AreNeighbours A' B' u v)
    → (i x : ℕ) → ((u : ℕ) → bad u ≡ false → AreNeighbours A B u i → AreNeighbours A' B' u x)
    → (s : ℕ) (xs : List ℕ) → bad s ≡ false → list_any bad xs ≡ false → list_any worse xs ≡ false
    → IsPath A B s xs i → IsPath A' B' s xs x
to_new_end A B A' B' bad worse keep i x last s [] bs bx wx p = last s bs p
to_new_end A B A' B' bad worse keep i x last s (y ∷ xs) bs bx wx p =
    let b = or_parts (bad y) (list_any bad xs) bx in
    let w = or_parts (worse y) (list_any worse xs) wx in
    (keep s y bs w.0 p.0, to_new_end A B A' B' bad worse keep i x last y xs b.0 b.1 w.1 p.1)

get_other : {X : Type 0} (xs : List X) (x : X) (u : ℕ) → (u ≡ length xs → ⊥)
    → slice_get (xs ++ x ∷ []) u ≡ slice_get xs u
get_other [] x zero ne = absurd (ne refl)
get_other [] x (suc u) ne = refl
get_other (y ∷ xs) x zero ne = refl
get_other (y ∷ xs) x (suc u) ne = get_other xs x u (λ h. ne (ap suc h))

get_pushed : {X : Type 0} (xs : List X) (x : X) → slice_get (xs ++ x ∷ []) (length xs) ≡ Some x
get_pushed [] x = refl
get_pushed (y ∷ xs) x = get_pushed xs x

-- The new place is after the last one.
order_pushed : (n : ℕ) (A B A1 B1 A2 B2 : ℕ → ℕ) (o : List ℕ) → n < 2 ^ 63 → IsOrder n A B o
    → ((u : ℕ) → nat_eq n u ≡ false → A1 u ≡ A u) → A1 n ≡ end → ((u : ℕ)
    → A2 u ≡ (if nat_eq u (B end) then n else A1 u))
    → ((u : ℕ) → is_either end n u ≡ false → B2 u ≡ B u) → B2 n ≡ B end → B2 end ≡ n
    → IsOrder (n + 1) A2 B2 (o ++ n ∷ [])
order_pushed n A B A1 B1 A2 B2 o small order a1 an a2 b bn be =
    let none : list_any (nat_eq n) o ≡ false = order.has n ∙ le-ltb n n (omega arith) in
    let none_end : list_any (nat_eq end) o ≡ false = order.has end ∙ le-ltb end n (omega (arith, small)) in
    let n_end : nat_eq n end ≡ false = ne_eqb n end (λ e. absurd (omega (arith, small, e))) in
    let there = before_back A B end o end order.path in
    let last_apart : nat_eq n (B end) ≡ false = good_before A B (nat_eq n) end o end n_end none order.path in
    let path = to_new_end A B A2 B2 (nat_eq n) (is_either end n)
    (λ u v bu wv j. (
    let w = or_parts (nat_eq end v) (nat_eq n v) wv in (
      a2 u ∙ cond-false (nat_eq u (B end)) _ _ (ne_eqb u (B end) (λ h. eqb-false end v w.0 (sym there
          ∙ ap A (sym h) ∙ j.0))) ∙ a1 u bu ∙ j.0,
      b v wv ∙ j.1,
    )
    )) end n
    (λ u bu j. (a2 u ∙ cond-true (nat_eq u (B end)) _ _ (eq-eqb u (B end) (sym j.1)), bn ∙ j.1))
    end o n_end none (any_either end n o none_end none) order.path in
    let behind : AreNeighbours A2 B2 n end = (a2 n ∙ cond-false (nat_eq n (B end)) _ _ last_apart ∙ an, be) in
    record {
      path = glued A2 B2 end o n [] end path behind;
      apart = mid_apart o n [] (ap (list_any (nat_eq n)) (append-nil o)
          ∙ none) (subst AreDistinct (sym (append-nil o)) order.apart);
      has = λ u. any_mid (nat_eq u) o n [] ∙ ap (λ l. nat_eq u n || list_any (nat_eq u) l) (append-nil o)
          ∙ ap (λ c. nat_eq u n || c) (order.has u) ∙ has_now u (nat_eq u n) refl;
      len = length_mid o n [] ∙ omega (arith, ap length (append-nil o), order.len);
    }
  where
    has_now : (u : ℕ) (c : Bool) → nat_eq u n ≡ c → (nat_eq u n || nat_lt u n) ≡ nat_lt u (n + 1)
    has_now u true k = ap (λ c. c || nat_lt u n) k ∙ sym (lt-ltb u (n + 1) (omega (arith, eqb-true u n k)))
    has_now u false k =
        ap (λ c. c || nat_lt u n) k
        ∙ elim (cases_lt u n) [
          | inl h ↦ lt-ltb u n h ∙ sym (lt-ltb u (n + 1) (omega (arith, h)))
          | inr h ↦ le-ltb u n h ∙ sym (le-ltb u (n + 1) (omega (arith, h, eqb-false u n k)))
        ]

-- The place of the last entry, or the end.
pub last_seat : {K V : Type 0} (ns : List (K × Node V)) (first last m : ℕ) → length ns ≤ m
    → AreLinked ns first last → IsPlaceOrEnd m last
last_seat ns first last m more linked =
    subst (IsPlaceOrEnd m) (cond-true (nat_eq end end) last (before_at ns end) (eq-eqb end end refl))
    (before_is (after_of ns first) (before_of ns last) (IsPlaceOrEnd m) end linked.0 end (inr refl)
    (λ u h. inl (omega (arith, more, ltb-true u (length ns) (sym (linked.1.has u) ∙ h)))) linked.1.path)

module _ {K V : Type 0} (ns ns1 ns2 : List (K × Node V)) (first last first2 last2 : ℕ) (k : K) (v : V)
    (small : length ns < 2 ^ 63) (small2 : length ns1 < 2 ^ 63) (linked : AreLinked ns first last)
    (s1 : ns1 ≡ ns ++ (k, record { value = v; before = last; after = end }) ∷ [])
    (a2 : (u : ℕ) → after_of ns2 first2 u ≡ (if nat_eq u last then length ns else after_of ns1 first u))
    (b2 : (u : ℕ) → before_of ns2 last2 u ≡ before_of ns1 last u)
    (c2 : cells ns2 ≡ cells ns1) where
  n1 : length ns1 ≡ length ns + 1
  n1 = ap length s1 ∙ length-append ns _

  n2 : length ns2 ≡ length ns + 1
  n2 = sym (length_cells ns2) ∙ ap length c2 ∙ length_cells ns1 ∙ n1

  last_is : before_of ns last end ≡ last
  last_is = cond-true (nat_eq end end) last (before_at ns end) (eq-eqb end end refl)

  order_now : IsOrder (length ns2) (after_of ns2 first2) (before_of ns2 (length ns)) (linked.0 ++ length ns ∷ [])
  order_now =
      let n = length ns in
      let n_end : nat_eq n end ≡ false = ne_eqb n end (λ e. absurd (omega (arith, small, e))) in
      let node : Node V = record { value = v; before = last; after = end } in
      let at_n : slice_get ns1 n ≡ Some (k, node) = ap (λ l. slice_get l n) s1 ∙ get_pushed ns (k, node) in
      subst (λ m. IsOrder m (after_of ns2 first2) (before_of ns2 n) (linked.0 ++ n ∷ [])) (sym n2)
      (order_pushed n (after_of ns first) (before_of ns last) (after_of ns1 first) (before_of ns1 last) (after_of ns2
      first2) (before_of ns2 n) linked.0 small linked.1
      (λ u h. ap (λ l. after_of l first u) s1 ∙ ap (λ o. if nat_eq u end then first else option_map_or (λ e.
      e.1.after) o 0) (get_other ns (k, node) u (λ e. eqb-false n u h (sym e))))
      (after_is_at ns1 first n n_end ∙ ap (λ o. option_map_or (λ e. e.1.after) o 0) at_n)
      (λ u. a2 u ∙ ap (λ l. if nat_eq u l then n else after_of ns1 first u) (sym last_is))
      (λ u h. (
      let parts = or_parts (nat_eq end u) (nat_eq n u) h in
      let u_end = eq_flip end u parts.0 in
      noted_end (λ x. x.before) last2 n ns2 u ∙ cond-false (nat_eq u end) n (before_of ns2 last2 u) u_end ∙ b2 u
      ∙ ap (λ l. before_of l last u) s1
      ∙ ap (λ o. if nat_eq u end then last else option_map_or (λ e. e.1.before) o 0) (get_other ns (k, node) u (λ e.
      eqb-false n u parts.1 (sym e)))
      ))
      (noted_end (λ x. x.before) last2 n ns2 n ∙ cond-false (nat_eq n end) n (before_of ns2 last2 n) n_end ∙ b2 n
      ∙ before_is_at ns1 last n n_end ∙ ap (λ o. option_map_or (λ e. e.1.before) o 0) at_n ∙ sym last_is)
      (cond-true (nat_eq end end) n (before_at ns2 end) (eq-eqb end end refl)))

  pub linked_pushed : AreLinked ns2 first2 (length ns)
  linked_pushed = (linked.0 ++ length ns ∷ [], order_now)

  pub in_order_pushed : in_order ns2 first2 ≡ in_order ns first ++ (k, v) ∷ []
  in_order_pushed =
      let n = length ns in
      let node : Node V = record { value = v; before = last; after = end } in
      let at_n : slice_get (cells ns2) n ≡ Some (k, v) =
      ap (λ l. slice_get l n) (c2 ∙ ap cells s1) ∙ cell_at (ns ++ (k, node) ∷ []) n
      ∙ ap (option_map (λ e. (e.0, e.1.value))) (get_pushed ns (k, node)) in
      let none : list_any (nat_eq n) linked.0 ≡ false = linked.1.has n ∙ le-ltb n n (omega arith) in
      in_order_is ns2 first2 n (linked.0 ++ n ∷ []) (omega (arith, n1, n2, small2)) order_now
      ∙ picked_mid (cells ns2) linked.0 n [] (k, v) at_n
      ∙ ap (λ l. l ++ (k, v) ∷ [])
      (picked_kept (cells ns) (cells ns2) (nat_eq n) (λ u h.
      ap (λ l. slice_get l u) (c2 ∙ ap cells s1) ∙ cell_at (ns ++ (k, node) ∷ []) u
      ∙ ap (option_map (λ e. (e.0, e.1.value))) (get_other ns (k, node) u (λ e. eqb-false n u h (sym e)))
      ∙ sym (cell_at ns u)) linked.0 none
      ∙ sym (in_order_is ns first last linked.0 small linked.1))
