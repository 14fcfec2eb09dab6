-- The ordered entries are a permutation of the entries of the table.
use Rattle.std.proofs.Common.{◌≡◌, ◌∙◌, ◌<◌, ◌^◌, ℕ, zero, suc, Bool, true, false, cond, nat_eq, nat_lt, List, []}
use Rattle.std.proofs.Common.{◌∷◌, ◌++◌, length, take, Option, None, Some, slice_get, refl, sym, ap, subst, arith}
use Rattle.std.proofs.Common.{true≢false, inl, inr, IsPermutation, ◌||◌, is_some, position}
use Rattle.std.specs.Cmp.{IsEquivalence}
use Rattle.std.specs.List.{list_any, cons_option, IsDistinct}
use Rattle.std.specs.Map.{keys_of, values_of, lookup, remove_entry, IsKeyTest}
use Rattle.std.specs.Option.{option_map}
use Rattle.std.proofs.lemmas.Bool.{or_left, or_right, eqb-false, eqb-true, eq-eqb, ltb-true, lt-ltb, le-ltb, cases_lt}
use Rattle.std.proofs.lemmas.List.{nil_from_length, length-take-le}
use Rattle.std.proofs.lemmas.List.Sorted.{IsPermutation-refl, IsPermutation-sym, IsPermutation-trans}
use Rattle.std.proofs.lemmas.List.Sorted.{IsPermutation-append_left, IsPermutation-to_front, IsPermutation-middle}
use Rattle.std.proofs.lemmas.List.Sorted.{IsPermutation-map, length_permutation}
use Rattle.std.proofs.lemmas.Map.Keys.{IsDistinct-IsPermutation}
use Rattle.std.proofs.lemmas.Option.{none-some, get_or_from_slice_get}
use Rattle.std.proofs.lemmas.List.Quantifiers.{position-Some}
use Rattle.indexmap.proofs.MapLemmas.{lookup_permutation, absent_before}
use Rattle.cedar_linked_map.specs.declared.chain.Node.{Node}
use Rattle.cedar_linked_map.specs.Linked.{AreDistinct, AreLinked, in_order, picked, cells}
use Rattle.cedar_linked_map.proofs.Orders.{any_mid, apart_mid, split_at, picked_mid, picked-append}
use Rattle.cedar_linked_map.proofs.Taken.{in_order_is, length_cells, take_get}

picked_same : {X : Type 0} (es fs : List X) (l : List ℕ) → ((u : ℕ) → list_any (nat_eq u) l ≡ true
    → slice_get fs u ≡ slice_get es u) → picked fs l ≡ picked es l
picked_same es fs [] same = refl
picked_same es fs (x ∷ l) same =
    (λ j. cons_option (same x (or_left (nat_eq x x) (list_any (nat_eq x) l) (eq-eqb x x refl)) j)
    (picked_same es fs l (λ u h. same u (or_right (nat_eq u x) (list_any (nat_eq u) l) h)) j))

last_of : {X : Type 0} (es : List X) (n : ℕ) → length es ≡ suc n
    → (c : X) × (slice_get es n ≡ Some c) × (es ≡ take n es ++ c ∷ [])
last_of [] n h = absurd (omega (arith, h))
last_of (e ∷ es) zero h = (e, refl, ap (λ l. e ∷ l) (nil_from_length es (omega (arith, h))))
last_of (e ∷ es) (suc n) h = let r = last_of es n (omega (arith, h)) in (r.0, r.1, ap (λ l. e ∷ l) r.2)

-- If a list has each place once, the items at its places are a permutation of all items.
pub permuted : {X : Type 0} (n : ℕ) (es : List X) (o : List ℕ) → length es ≡ n → AreDistinct o → ((u : ℕ)
    → list_any (nat_eq u) o ≡ nat_lt u n) → IsPermutation es (picked es o)
permuted zero es [] len apart has = subst (λ l. IsPermutation l []) (sym (nil_from_length es len))
    (IsPermutation-refl [])
permuted zero es (x ∷ o) len apart has =
    absurd (true≢false (sym (or_left (nat_eq x x) (list_any (nat_eq x) o) (eq-eqb x x refl)) ∙ has x
    ∙ le-ltb x zero (omega arith)))
permuted (suc n) es o len apart has =
    let at = split_at n o (has n ∙ lt-ltb n (suc n) (omega arith)) in
    let c = last_of es n len in
    let rest = apart_mid at.0 n at.1 (subst AreDistinct at.2 apart) in
    let fewer : (u : ℕ) → list_any (nat_eq u) (at.0 ++ at.1)
    ≡ nat_lt u n = λ u. less u (nat_eq u n) refl at.0 at.1 at.2 rest.0 in
    let front : IsPermutation (take n es) (picked (take n es) (at.0 ++ at.1)) =
    permuted n (take n es) (at.0 ++ at.1) (length-take-le n es (omega (arith, len))) rest.1 fewer in
    let same : picked (take n es) (at.0 ++ at.1) ≡ picked es at.0 ++ picked es at.1 =
    picked_same es (take n es) (at.0 ++ at.1) (λ u h. take_get n es u (ltb-true u n (sym (fewer u) ∙ h)))
    ∙ picked-append es at.0 at.1 in
    let all : picked es o ≡ picked es at.0 ++ c.0 ∷ picked es at.1 = ap (picked es) at.2
    ∙ picked_mid es at.0 n at.1 c.0 c.1 in
    let pushed : IsPermutation (take n es ++ c.0 ∷ []) ((picked es at.0 ++ picked es at.1) ++ c.0 ∷ []) =
    IsPermutation-append_left (c.0 ∷ []) (take n es) _ (subst (IsPermutation (take n es)) same front) in
    let inside : IsPermutation ((picked es at.0 ++ picked es at.1) ++ c.0 ∷ []) (picked es at.0 ++ c.0 ∷ picked es
    at.1) =
    IsPermutation-trans _ (c.0 ∷ (picked es at.0 ++ picked es at.1)) _ (IsPermutation-to_front (picked es at.0 ++
    picked es at.1) c.0)
    (IsPermutation-sym _ _ (IsPermutation-middle (picked es at.0) c.0 (picked es at.1))) in
    subst (IsPermutation es) (sym all) (subst (λ l. IsPermutation l (picked es at.0 ++ c.0 ∷ picked es at.1)) (sym
    c.2) (IsPermutation-trans _ _ _ pushed inside))
  where
    less : (u : ℕ) (b : Bool) → nat_eq u n ≡ b → (xs ys : List ℕ) → o ≡ xs ++ n ∷ ys
        → list_any (nat_eq n) (xs ++ ys) ≡ false → list_any (nat_eq u) (xs ++ ys) ≡ nat_lt u n
    less u true k xs ys e none = ap (λ z. list_any (nat_eq z) (xs ++ ys)) (eqb-true u n k) ∙ none
        ∙ sym (le-ltb u n (omega (arith, eqb-true u n k)))
    less u false k xs ys e none =
        sym (any_mid (nat_eq u) xs n ys ∙ ap (λ b. b || list_any (nat_eq u) (xs ++ ys)) k)
        ∙ ap (list_any (nat_eq u)) (sym e) ∙ has u
        ∙ elim (cases_lt u n) [
          | inl h ↦ lt-ltb u (suc n) (omega (arith, h)) ∙ sym (lt-ltb u n h)
          | inr h ↦ le-ltb u (suc n) (omega (arith, h, eqb-false u n k)) ∙ sym (le-ltb u n h)
        ]

module _ {K V : Type 0} where
  keys_of_cells : (ns : List (K × Node V)) → keys_of (cells ns) ≡ keys_of ns
  keys_of_cells [] = refl
  keys_of_cells (e ∷ ns) = ap (λ l. e.0 ∷ l) (keys_of_cells ns)

  lookup_cells : (t : K → Bool) (ns : List (K × Node V)) → lookup t (cells ns) ≡ option_map (λ n. n.value) (lookup t ns)
  lookup_cells t [] = refl
  lookup_cells t (e ∷ ns) = by (t e.0) (lookup_cells t ns)
    where
      by : (b : Bool) → lookup t (cells ns) ≡ option_map (λ n. n.value) (lookup t ns)
          → cond b (Some e.1.value) (lookup t (cells ns)) ≡ option_map (λ n. n.value) (cond b (Some e.1) (lookup t ns))
      by true h = refl
      by false h = h

  module _ (ns : List (K × Node V)) (first last : ℕ) (small : length ns < 2 ^ 63) (linked : AreLinked ns first last)
    where
      pub same_entries : IsPermutation (cells ns) (in_order ns first)
      same_entries =
          subst (IsPermutation (cells ns)) (sym (in_order_is ns first last linked.0 small linked.1))
          (permuted (length ns) (cells ns) linked.0 (length_cells ns) linked.1.apart linked.1.has)

      pub same_length : length (in_order ns first) ≡ length ns
      same_length = length_permutation (cells ns) (in_order ns first) same_entries ∙ length_cells ns

      module _ {eq : K → K → Bool} (laws : IsEquivalence eq) (unique : IsDistinct eq (keys_of ns)) where
        pub still_unique : IsDistinct eq (keys_of (in_order ns first))
        still_unique =
            IsDistinct-IsPermutation eq laws.symm (keys_of (cells ns)) (keys_of (in_order ns first))
            (IsPermutation-map (λ e. e.0) (cells ns) (in_order ns first) same_entries)
            (subst (IsDistinct eq) (sym (keys_of_cells ns)) unique)

        pub looked_up : (t : K → Bool) → IsKeyTest eq t
            → lookup t (in_order ns first) ≡ option_map (λ n. n.value) (lookup t ns)
        looked_up t key = lookup_permutation laws (cells ns) (in_order ns first) same_entries still_unique t key
            ∙ lookup_cells t ns

-- An entry that is removed from the middle is the entry that its key finds.
module _ {K X : Type 0} (t : K → Bool) where
  pub none_in_front : (x : K × X) (xs : List (K × X)) → lookup t (x ∷ xs) ≡ None
      → (t x.0 ≡ false) × (lookup t xs ≡ None)
  none_in_front x xs h = by (t x.0) refl h
    where
      by : (b : Bool) → t x.0 ≡ b → cond b (Some x.1) (lookup t xs) ≡ None → (t x.0 ≡ false) × (lookup t xs ≡ None)
      by true k g = absurd (none-some x.1 (sym g))
      by false k g = (k, g)

  pub removed_mid : (xs : List (K × X)) (e : K × X) (ys : List (K × X)) → lookup t xs ≡ None → t e.0 ≡ true
      → remove_entry t (xs ++ e ∷ ys) ≡ xs ++ ys
  removed_mid [] e ys none passes = ap (λ b. cond b ys (e ∷ remove_entry t ys)) passes
  removed_mid (x ∷ xs) e ys none passes =
      let parts = none_in_front x xs none in
      ap (λ b. cond b (xs ++ e ∷ ys) (x ∷ remove_entry t (xs ++ e ∷ ys))) parts.0
      ∙ ap (λ l. x ∷ l) (removed_mid xs e ys parts.1 passes)

  pub removed_none : (xs : List (K × X)) → lookup t xs ≡ None → remove_entry t xs ≡ xs
  removed_none [] none = refl
  removed_none (x ∷ xs) none =
      let parts = none_in_front x xs none in
      ap (λ b. cond b xs (x ∷ remove_entry t xs)) parts.0 ∙ ap (λ l. x ∷ l) (removed_none xs parts.1)

  pub same_test : (s : K → Bool) → ((k : K) → t k ≡ s k) → (xs : List (K × X)) → lookup t xs ≡ lookup s xs
  same_test s same [] = refl
  same_test s same (x ∷ xs) = (λ j. cond (same x.0 j) (Some x.1) (same_test s same xs j))

  pub taken_mid : {eq : K → K → Bool} → IsEquivalence eq → IsKeyTest eq t
      → (es : List (K × X)) (e : K × X) (fs xs ys : List (K × X)) → IsDistinct eq (keys_of es)
      → es ≡ xs ++ e ∷ ys → fs ≡ xs ++ ys → t e.0 ≡ true → fs ≡ remove_entry t es
  taken_mid {eq} laws key es e fs xs ys unique is after passes =
      let none = same_test (eq e.0) (λ k. key e.0 k passes) xs
      ∙ absent_before laws xs ys e (subst (λ l. IsDistinct eq (keys_of l)) is unique) in
      after ∙ sym (ap (remove_entry t) is ∙ removed_mid xs e ys none passes)

-- The entry at a place.
module _ {K V : Type 0} where
  pub value_there : (ns : List (K × Node V)) (i : ℕ) (r : K × V) → slice_get (cells ns) i ≡ Some r
      → option_map (λ n. n.value) (slice_get (values_of ns) i) ≡ Some r.1
  value_there [] i r h = absurd (none-some r h)
  value_there (e ∷ ns) zero r h = ap (option_map (λ p. p.1)) h
  value_there (e ∷ ns) (suc i) r h = value_there ns i r h

  pub key_there : (ns : List (K × Node V)) (i : ℕ) (r : K × V) → slice_get (cells ns) i ≡ Some r
      → slice_get (keys_of ns) i ≡ Some r.0
  key_there [] i r h = absurd (none-some r h)
  key_there (e ∷ ns) zero r h = ap (option_map (λ p. p.0)) h
  key_there (e ∷ ns) (suc i) r h = key_there ns i r h

  pub key_passes : (t : K → Bool) (ns : List (K × Node V)) (i : ℕ) (r : K × V) → position t (keys_of ns) ≡ Some i
      → slice_get (cells ns) i ≡ Some r → t r.0 ≡ true
  key_passes t ns i r at h = ap t (sym (get_or_from_slice_get (keys_of ns) i r.0 r.0 (key_there ns i r h)))
      ∙ (position-Some t (keys_of ns) i r.0 at).1

-- The key and the node at a place are those of the entry there.
pub node_there : {K V : Type 0} (ns : List (K × Node V)) (i : ℕ) (k : K) (n : Node V) (r : K × V)
    → slice_get ns i ≡ Some (k, n) → slice_get (cells ns) i ≡ Some r → (k ≡ r.0) × (n.value ≡ r.1)
node_there [] i k n r h g = absurd (none-some r g)
node_there (e ∷ ns) zero k n r h g =
    let same : e ≡ (k, n) = cc in
    let there : (e.0, e.1.value) ≡ r = cc in
    (ap (λ p. p.0) (sym same) ∙ ap (λ p. p.0) there, ap (λ p. p.1.value) (sym same) ∙ ap (λ p. p.1) there)
node_there (e ∷ ns) (suc i) k n r h g = node_there ns i k n r h g

pub none_from : {X : Type 0} (o : Option X) → is_some o ≡ false → o ≡ None
none_from None h = refl
none_from (Some x) h = absurd (true≢false h)

pub none_before : {X Y : Type 0} (f : X → Y) (o : Option X) → option_map f o ≡ None → o ≡ None
none_before f None h = refl
none_before f (Some x) h = absurd (none-some (f x) (sym h))
