-- Orders of numbers: first the numbers with incoming arcs, then the others.
use Rattle.std.proofs.Common.{◌≡◌, ℕ, zero, suc, ◌+◌, ◌<◌, List, [], ◌∷◌, ◌++◌, length, map, get_or, refl, sym, ap}
use Rattle.std.proofs.Common.{subst, ◌∙◌, arith, append_assoc}
use Rattle.std.specs.List.{range_with_len}
use Rattle.std.specs.List.Sorted.{IsPermutation}
use Rattle.std.proofs.lemmas.Grind.{get_or_moved}
use Rattle.std.proofs.lemmas.List.FromFn.{length-range_with_len, get_or-range_with_len, fill_by_all}
use Rattle.std.proofs.lemmas.List.Sorted.{IsPermutation-append_comm, IsPermutation-append_left}
use Rattle.std.proofs.lemmas.List.Sorted.{IsPermutation-append_right, IsPermutation-map, IsPermutation-trans}

-- A permutation of the numbers below n has no other number.
pub order_inside : (n : ℕ) (order : List ℕ) → IsPermutation (range_with_len 0 n) order → (i : ℕ) → i < length order
    → get_or order i 0 < n
order_inside n order s i h =
    let m = get_or_moved (range_with_len 0 n) s.moves i 0 s.below (subst (λ v. i < length v) s.is h) in
    let within : m.1.0 < n = omega (arith, m.1.1, length-range_with_len 0 n) in
    omega (arith, within, ap (λ v. get_or v i 0) s.is ∙ m.1.2, get_or-range_with_len 0 n m.1.0 0 within)

-- Mapping the positions of a list to its elements gives the list.
by_places : (xs : List ℕ) → map (λ p. get_or xs p 0) (range_with_len 0 (length xs)) ≡ xs
by_places xs = sym (fill_by_all (λ p. get_or xs p 0) xs (length xs) 0 refl (λ k lt. refl))

-- The numbers at a permutation of the places, followed by the others, are a permutation.
pub placed : (numbers others places : List ℕ) → IsPermutation (range_with_len 0 (length numbers)) places
    → IsPermutation (numbers ++ others) (map (λ p. get_or numbers p 0) places ++ others)
placed numbers others places s =
    let at : ℕ → ℕ = λ p. get_or numbers p 0 in
    IsPermutation-append_left others numbers (map at places) (subst (λ v. IsPermutation v (map at places))
    (by_places numbers) (IsPermutation-map at (range_with_len 0 (length numbers)) places s))

-- Appending a number to the first part.
pub insert_first_child : (led others : List ℕ) (n : ℕ) → IsPermutation (led ++ others ++ n ∷ []) ((led ++ n ∷ []) ++ others)
insert_first_child led others n =
    subst (λ v. IsPermutation v ((led ++ n ∷ []) ++ others)) (sym (append_assoc led others (n ∷ [])))
    (subst (λ v. IsPermutation (led ++ (others ++ n ∷ [])) v) (sym (append_assoc led (n ∷ []) others))
    (IsPermutation-append_right led (others ++ n ∷ []) ((n ∷ []) ++ others)
    (IsPermutation-append_comm others (n ∷ []))))

last : (a n j : ℕ) → a + n ≡ j → range_with_len a (suc n) ≡ range_with_len a n ++ j ∷ []
last a zero j e = let same : a ≡ j = omega arith in ap (λ k. k ∷ []) same
last a (suc n) j e = ap (λ l. a ∷ l) (last (a + 1) n j (omega arith))

-- The two parts contain the numbers below n, and n is appended to one of them.
pub one_more : (n : ℕ) (led others led' others' : List ℕ) → IsPermutation (range_with_len 0 n) (led ++ others)
    → IsPermutation (led ++ others ++ n ∷ []) (led' ++ others')
    → IsPermutation (range_with_len 0 (n + 1)) (led' ++ others')
one_more n led others led' others' s t =
    let on : n + 1 ≡ suc n = omega arith in
    let is_n : 0 + n ≡ n = omega arith in
    IsPermutation-trans (range_with_len 0 (n + 1)) (led ++ others ++ n ∷ []) (led' ++ others')
    (subst (λ v. IsPermutation v (led ++ others ++ n ∷ [])) (sym (ap (range_with_len 0) on ∙ last 0 n n is_n))
    (IsPermutation-append_left (n ∷ []) (range_with_len 0 n) (led ++ others) s)) t
