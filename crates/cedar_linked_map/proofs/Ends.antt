-- The first and the last entry of the order.
use Rattle.std.proofs.Common.{◌≡◌, ◌∙◌, ◌-◌, ◌<◌, ◌^◌, ℕ, zero, suc, Bool, true, false, cond, nat_eq, List, [], ◌∷◌}
use Rattle.std.proofs.Common.{◌++◌, length, None, Some, slice_get, refl, sym, ap, subst, arith, true≢false}
use Rattle.std.specs.Cmp.{IsEquivalence}
use Rattle.std.specs.List.{list_any, IsDistinct}
use Rattle.std.specs.Map.{keys_of, lookup}
use Rattle.std.proofs.lemmas.Bool.{or_left, or_right, eq-eqb, ltb-true, cond-true}
use Rattle.std.proofs.lemmas.List.{length-append}
use Rattle.std.proofs.lemmas.Option.{slice_get_past, same_Some}
use Rattle.indexmap.proofs.MapLemmas.{absent_before}
use Rattle.cedar_linked_map.specs.declared.chain.Node.{Node}
use Rattle.cedar_linked_map.specs.Linked.{IsPath, IsOrder, AreLinked, in_order, picked, cells, after_at, before_at}
use Rattle.cedar_linked_map.specs.Linked.{after_of, before_of, end}
use Rattle.cedar_linked_map.proofs.Paths.{parted}
use Rattle.cedar_linked_map.proofs.Orders.{picked_mid, some_below}
use Rattle.cedar_linked_map.proofs.Taken.{in_order_is, length_cells}
use Rattle.cedar_linked_map.proofs.Seen.{none_in_front}

-- The last item of a non-empty list.
split_last : (x : ℕ) (xs : List ℕ) → (ys : List ℕ) × (l : ℕ) × (x ∷ xs ≡ ys ++ l ∷ [])
split_last x [] = ([], x, refl)
split_last x (y ∷ xs) = let r = split_last y xs in (x ∷ r.0, r.1, ap (λ l. x ∷ l) r.2)

get_last : {X : Type 0} (xs : List X) (x : X) → slice_get (xs ++ x ∷ []) (length (xs ++ x ∷ []) - 1) ≡ Some x
get_last {X} xs x = ap (slice_get (xs ++ x ∷ [])) (omega (arith, length-append xs (x ∷ []))) ∙ at xs
  where
    at : (ys : List X) → slice_get (ys ++ x ∷ []) (length ys) ≡ Some x
    at [] = refl
    at (y ∷ ys) = at ys

any_last : (t : ℕ → Bool) (ys : List ℕ) (l : ℕ) → t l ≡ true → list_any t (ys ++ l ∷ []) ≡ true
any_last t [] l h = or_left (t l) false h
any_last t (y ∷ ys) l h = or_right (t y) (list_any t (ys ++ l ∷ [])) (any_last t ys l h)

module _ {K V : Type 0} (ns : List (K × Node V)) (first last : ℕ) (small : length ns < 2 ^ 63) (linked : AreLinked ns
    first last) where
  within : (u : ℕ) → list_any (nat_eq u) linked.0 ≡ true → u < length ns
  within u h = ltb-true u (length ns) (sym (linked.1.has u) ∙ h)

  first_of : (o : List ℕ) → IsOrder (length ns) (after_of ns first) (before_of ns last) o → 0 < length ns
      → (xs : List ℕ) × (o ≡ first ∷ xs)
  first_of [] order some = absurd (omega (arith, order.len, some))
  first_of (x ∷ xs) order some = (
    xs,
    ap (λ y. y ∷ xs) (sym order.path.0.0 ∙ cond-true (nat_eq end end) first (after_at ns end) (eq-eqb end end
        refl)),
  )

  -- A table that is not empty has the first entry.
  pub first_within : 0 < length ns → first < length ns
  first_within some =
      let p = first_of linked.0 linked.1 some in
      within first (ap (list_any (nat_eq first)) p.1
      ∙ or_left (nat_eq first first) (list_any (nat_eq first) p.0) (eq-eqb first first refl))

  -- The first entry is the first in the order.
  pub first_entry : (e : K × V) → slice_get (cells ns) first ≡ Some e → 0 < length ns
      → (rest : List (K × V)) × (in_order ns first ≡ e ∷ rest)
  first_entry e at some =
      let p = first_of linked.0 linked.1 some in (
        picked (cells ns) p.0,
        in_order_is ns first last linked.0 small linked.1 ∙ ap (picked (cells ns)) p.1
            ∙ picked_mid (cells ns) [] first p.0 e at,
      )

  -- The last entry is the last in the order.
  pub last_entry : slice_get (in_order ns first) (length (in_order ns first) - 1) ≡ slice_get (cells ns) last
  last_entry = by linked.0 linked.1 (in_order_is ns first last linked.0 small linked.1)
    where
      by : (o : List ℕ) → IsOrder (length ns) (after_of ns first) (before_of ns last) o
          → in_order ns first ≡ picked (cells ns) o
          → slice_get (in_order ns first) (length (in_order ns first) - 1) ≡ slice_get (cells ns) last
      by [] order is =
          ap (λ l. slice_get l (length l - 1)) is
          ∙ sym (slice_get_past (cells ns) last (omega (arith, length_cells ns, order.len)))
      by (x ∷ xs) order is =
          let s = split_last x xs in
          let parts = parted (after_of ns first) (before_of ns last) end s.0 s.1 [] end
          (subst (λ o. IsPath (after_of ns first) (before_of ns last) end o end) s.2 order.path) in
          let same : last ≡ s.1 = sym (cond-true (nat_eq end end) last (before_at ns end) (eq-eqb end end refl))
          ∙ parts.1.1 in
          let there : list_any (nat_eq s.1) (x ∷ xs) ≡ true = ap (list_any (nat_eq s.1)) s.2
          ∙ any_last (nat_eq s.1) s.0 s.1 (eq-eqb s.1 s.1 refl) in
          let e = some_below (cells ns) s.1 (omega (
            arith,
            length_cells ns,
            ltb-true s.1 (length ns) (sym (order.has
                s.1) ∙ there),
          )) in
          let all : in_order ns first ≡ picked (cells ns) s.0 ++ e.0 ∷ [] = is ∙ ap (picked (cells ns)) s.2
          ∙ picked_mid (cells ns) s.0 s.1 [] e.0 e.1 in
          ap (λ l. slice_get l (length l - 1)) all ∙ get_last (picked (cells ns) s.0) e.0 ∙ sym e.1
          ∙ ap (slice_get (cells ns)) (sym same)

-- If the removed entry equals the first one, it is the first one.
pub popped : {K X : Type 0} {eq : K → K → Bool} → IsEquivalence eq
    → (es : List (K × X)) (e : K × X) (rest fs xs ys : List (K × X)) → IsDistinct eq (keys_of es)
    → es ≡ e ∷ rest → es ≡ xs ++ e ∷ ys → fs ≡ xs ++ ys → es ≡ e ∷ fs
popped laws es e rest fs [] ys unique front is after = is ∙ ap (λ l. e ∷ l) (sym after)
popped {K} {X} {eq} laws es e rest fs (x ∷ xs) ys unique front is after =
    let none = none_in_front (eq e.0) x xs (absent_before laws (x ∷ xs) ys e (subst (λ l. IsDistinct eq (keys_of l))
    is unique)) in
    let same : e ≡ x = same_Some e x (ap (λ l. slice_get l 0) (sym front ∙ is)) in
    absurd (true≢false (sym (laws.refl e.0) ∙ ap (λ z. eq e.0 z.0) same ∙ none.0))

-- The length of a table that is not empty.
pub some_len : (n : ℕ) (b : Bool) → (n ≡ 0 → b ≡ true) → b ≡ false → 0 < n
some_len zero b same none = absurd (true≢false (sym (same refl) ∙ none))
some_len (suc n) b same none = omega arith

-- An entry in the middle is found by its key.
pub found_mid : {K X : Type 0} {eq : K → K → Bool} → IsEquivalence eq
    → (es : List (K × X)) (e : K × X) (xs ys : List (K × X)) → IsDistinct eq (keys_of es)
    → es ≡ xs ++ e ∷ ys → lookup (eq e.0) es ≡ Some e.1
found_mid {K} {X} {eq} laws es e xs ys unique is =
    ap (lookup (eq e.0)) is ∙ by xs (absent_before laws xs ys e (subst (λ l. IsDistinct eq (keys_of l)) is unique))
  where
    by : (xs : List (K × X)) → lookup (eq e.0) xs ≡ None → lookup (eq e.0) (xs ++ e ∷ ys) ≡ Some e.1
    by [] none = ap (λ b. cond b (Some e.1) (lookup (eq e.0) ys)) (laws.refl e.0)
    by (x ∷ xs) none =
        let parts = none_in_front (eq e.0) x xs none in
        ap (λ b. cond b (Some x.1) (lookup (eq e.0) (xs ++ e ∷ ys))) parts.0 ∙ by xs parts.1
