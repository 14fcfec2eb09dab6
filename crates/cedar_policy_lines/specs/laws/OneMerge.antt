-- A merge has exactly one renaming.
use Rattle.std.specs.Prelude.{◌≡◌, ◌⊎◌, ℕ, zero, suc, ◌+◌, ◌<◌, List, [], ◌∷◌, ◌++◌, Bool, true, false, if◌then◌else◌}
use Rattle.std.specs.Prelude.{length}
use Rattle.std.proofs.Common.{◌≤◌, ap, sym, refl, subst, ◌∙◌, inl, inr, arith}
use Rattle.std.specs.List.{list_any}
use Rattle.std.specs.Map.{keys_of, values_of}
use Rattle.std.proofs.lemmas.Map.Entries.{length-keys_of, length-values_of}
use Rattle.cedar_ids.specs.Texts.{same_text}
use Rattle.cedar_policy_maps.specs.PolicySets.{SetParts}
use Rattle.cedar_policy_merge.specs.Fresh.{numbered, is_bound_in_either, free_below, IsFree, AreFree}
use Rattle.cedar_policy_merge.specs.Merge.{conflicts, IsRenaming, ids_of}
use Rattle.cedar_policy_merge.specs.laws.FreshLaws.{free_more, none_free_below, passed, counted, free_within}
use Rattle.cedar_policy_merge.specs.laws.FreshLaws.{either_among_ids}

-- ---- At most one

ordered_more : (m n : ℕ) → (m < n) ⊎ ((m ≡ n) ⊎ (n < m)) → (suc m < suc n) ⊎ ((suc m ≡ suc n) ⊎ (suc n < suc m))
ordered_more m n (inl l) = inl (omega arith)
ordered_more m n (inr (inl e)) = inr (inl (ap suc e))
ordered_more m n (inr (inr l)) = inr (inr (omega arith))

ordered : (m n : ℕ) → (m < n) ⊎ ((m ≡ n) ⊎ (n < m))
ordered zero zero = inr (inl refl)
ordered zero (suc n) = inl (omega arith)
ordered (suc m) zero = inr (inr (omega arith))
ordered (suc m) (suc n) = ordered_more m n (ordered m n)

more_by : (b : Bool) (x : ℕ) → x ≤ x + (if b then 0 else 1)
more_by true x = omega arith
more_by false x = omega arith

more_below : (bound : List ℕ → Bool) (n : ℕ) → free_below bound n ≤ free_below bound (suc n)
more_below bound n = subst (λ x. free_below bound n ≤ x) (sym (free_more bound n))
    (more_by (bound (numbered n)) (free_below bound n))

grows_by : (bound : List ℕ → Bool) (m n : ℕ) → m < suc n → bound (numbered m) ≡ false
    → (m < n → free_below bound m < free_below bound n) → (m < n) ⊎ ((m ≡ n) ⊎ (n < m))
    → free_below bound m < free_below bound (suc n)
grows_by bound m n l e before (inl k) = let g = before k in let s = more_below bound n in omega arith
grows_by bound m n l e before (inr (inl same)) = let c = counted bound m e in
    subst (λ x. free_below bound m < free_below bound (suc x)) same (omega arith)
grows_by bound m n l e before (inr (inr k)) = absurd (omega arith)

-- A larger number has more free ids below it, if the id of the smaller number is free.
grows : (bound : List ℕ → Bool) (m n : ℕ) → m < n → bound (numbered m) ≡ false → free_below bound m < free_below bound n
grows bound m zero l e = absurd (omega arith)
grows bound m (suc n) l e = grows_by bound m n l e (λ k. grows bound m n k e) (ordered m n)

one_by : (bound : List ℕ → Bool) (k m n : ℕ) → IsFree bound k m → IsFree bound k n → (m < n) ⊎ ((m ≡ n) ⊎ (n < m))
    → m ≡ n
one_by bound k m n f g (inl l) = let h = grows bound m n l f.0 in let a = f.1 in let b = g.1 in absurd (omega arith)
one_by bound k m n f g (inr (inl e)) = e
one_by bound k m n f g (inr (inr l)) = let h = grows bound n m l g.0 in let a = f.1 in let b = g.1 in
    absurd (omega arith)

-- There is only one free id at position `k`.
one_free : (bound : List ℕ → Bool) (k m n : ℕ) → IsFree bound k m → IsFree bound k n → m ≡ n
one_free bound k m n f g = one_by bound k m n f g (ordered m n)

same_lists : (bound : List ℕ → Bool) (k : ℕ) (is js : List (List ℕ)) → length is ≡ length js → AreFree bound k is
    → AreFree bound k js → is ≡ js
same_lists bound k [] [] e a b = refl
same_lists bound k [] (j ∷ js) e a b = absurd (omega arith)
same_lists bound k (i ∷ is) [] e a b = absurd (omega arith)
same_lists bound k (i ∷ is) (j ∷ js) e a b =
    let same : i ≡ j = a.0.1 ∙ ap numbered (one_free bound k a.0.0 b.0.0 a.0.2 b.0.2) ∙ sym b.0.1 in
    let rest = same_lists bound (k + 1) is js (omega arith) a.1 b.1 in
    λ t. same t ∷ rest t

heads : {X : Type 0} {x y : X} {xs ys : List X} → x ∷ xs ≡ y ∷ ys → x ≡ y
heads p = cc

tails : {X : Type 0} {x y : X} {xs ys : List X} → x ∷ xs ≡ y ∷ ys → xs ≡ ys
tails p = cc

same_pairs : (r s : List (List ℕ × List ℕ)) → keys_of r ≡ keys_of s → values_of r ≡ values_of s → r ≡ s
same_pairs [] [] k v = refl
same_pairs [] (y ∷ s) k v = cc
same_pairs (x ∷ r) [] k v = cc
same_pairs (x ∷ r) (y ∷ s) k v =
    let key : x.0 ≡ y.0 = heads k in
    let value : x.1 ≡ y.1 = heads v in
    let rest = same_pairs r s (tails k) (tails v) in
    λ t. (key t, value t) ∷ rest t

-- A merge has at most one renaming.
pub one_renaming : (h o : SetParts) (r s : List (List ℕ × List ℕ)) → IsRenaming h o r → IsRenaming h o s → r ≡ s
one_renaming h o r s a b =
    let keys = a.0 ∙ sym b.0 in
    let counts = length-values_of r ∙ sym (length-keys_of r) ∙ ap length keys ∙ length-keys_of s
    ∙ sym (length-values_of s) in
    same_pairs r s keys (same_lists (is_bound_in_either h o) 0 (values_of r) (values_of s) counts a.1 b.1)

-- ---- At least one

-- The free id at position `k` is the id of the number before the bound or of an earlier one.
at_or_before : (bound : List ℕ → Bool) (k m : ℕ) → (k < free_below bound m → (n : ℕ) × IsFree bound k n)
    → k < free_below bound (suc m) → (b : Bool) → bound (numbered m) ≡ b →
    (free_below bound m < k) ⊎ ((free_below bound m ≡ k) ⊎ (k < free_below bound m)) → (n : ℕ) × IsFree bound k n
at_or_before bound k m before l b e (inr (inr s)) = before s
at_or_before bound k m before l true e (inl s) = absurd (let p = passed bound m e in omega arith)
at_or_before bound k m before l true e (inr (inl s)) = absurd (let p = passed bound m e in omega arith)
at_or_before bound k m before l false e (inl s) = absurd (let c = counted bound m e in omega arith)
at_or_before bound k m before l false e (inr (inl s)) = (m, (e, s))

-- If more than `k` ids are free below a number, one of them is the free id at position `k`.
free_before : (bound : List ℕ → Bool) (k m : ℕ) → k < free_below bound m → (n : ℕ) × IsFree bound k n
free_before bound k zero l = absurd (let z = none_free_below bound in omega arith)
free_before bound k (suc m) l = at_or_before bound k m (λ s. free_before bound k m s) l (bound (numbered m)) refl
    (ordered (free_below bound m) k)

-- If the used ids are the ids of a list, there is a free id at each position.
kth_free : (bound : List ℕ → Bool) (xs : List (List ℕ)) → ((i : List ℕ) → bound i ≡ list_any (same_text i) xs) → (k : ℕ)
    → (n : ℕ) × IsFree bound k n
kth_free bound xs q k = free_before bound k (suc (k + length xs))
    (omega (arith, free_within bound xs (suc (k + length xs)) q))

free_list : (bound : List ℕ → Bool) (xs : List (List ℕ)) → ((i : List ℕ) → bound i ≡ list_any (same_text i) xs)
    → (k c : ℕ) → (is : List (List ℕ)) × (length is ≡ c) × AreFree bound k is
free_list bound xs q k zero = ([], refl, tt)
free_list bound xs q k (suc c) =
    let f = kth_free bound xs q k in
    let r = free_list bound xs q (k + 1) c in
    (numbered f.0 ∷ r.0, ap suc r.1, ((f.0, refl, f.1), r.2))

-- Two lists of equal length are the keys and values of a list of pairs.
paired : (ks vs : List (List ℕ)) → length vs ≡ length ks → (r : List (List ℕ × List ℕ)) × (keys_of r ≡ ks)
    × (values_of r ≡ vs)
paired [] [] e = ([], refl, refl)
paired [] (v ∷ vs) e = absurd (omega arith)
paired (k ∷ ks) [] e = absurd (omega arith)
paired (k ∷ ks) (v ∷ vs) e = let p = paired ks vs (omega arith) in
    ((k, v) ∷ p.0, ap (λ l. k ∷ l) p.1, ap (λ l. v ∷ l) p.2)

-- A merge has a renaming.
pub renaming_of : (h o : SetParts) → (r : List (List ℕ × List ℕ)) × IsRenaming h o r
renaming_of h o =
    let v = free_list (is_bound_in_either h o) (ids_of h ++ ids_of o) (either_among_ids h o) 0
    (length (conflicts h o)) in
    let p = paired (conflicts h o) v.0 v.1 in
    (p.0, (p.1, subst (AreFree (is_bound_in_either h o) 0) (sym p.2) v.2))
