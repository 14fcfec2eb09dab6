-- The count of the free ids below a number.
use Rattle.std.specs.Prelude.{◌≡◌, ℕ, ◌+◌, ◌<◌, List, [], ◌∷◌, ◌++◌, length, Bool, true, false, ◌||◌, Option, Some}
use Rattle.std.specs.Prelude.{None, if◌then◌else◌, refl, suc, zero}
use Rattle.std.proofs.Common.{◌≤◌, sym, ap, ◌∙◌, arith, add-zero, cond, subst}
use Rattle.std.specs.List.{list_any}
use Rattle.std.specs.Map.{lookup, keys_of, values_of}
use Rattle.std.proofs.lemmas.Bool.{or_parts}
use Rattle.std.proofs.lemmas.List.{append_assoc, length-append, length-map, map-append}
use Rattle.std.proofs.lemmas.List.Folds.{list_any-append}
use Rattle.cedar_ids.specs.Texts.{same_text}
use Rattle.cedar_ids.specs.laws.TextLaws.{same_text_equiv, same_text_decides}
use Rattle.cedar_body.specs.Bodies.{BodyParts}
use Rattle.cedar_policy.specs.Policies.{policy_id}
use Rattle.cedar_policy_maps.specs.PolicySets.{SetParts, AreOnce, is_bound}
use Rattle.cedar_policy_merge.specs.Fresh.{numbered, is_bound_in_either, free_below, IsFree, AreFree}
use Rattle.cedar_policy_merge.specs.Merge.{body_ids, policy_ids, ids_of}
use Rattle.cedar_policy_merge.specs.laws.Numerals.{numbered_is}
use Rattle.cedar_policy_maps.specs.laws.OnceLaws.{any-map}

-- The count of the numbers below `n` whose ids are in use.
unfoldable bound_below : (List ℕ → Bool) → ℕ → ℕ
bound_below bound zero = 0
bound_below bound (suc n) = bound_below bound n + (if bound (numbered n) then 1 else 0)

pub free_more : (bound : List ℕ → Bool) (n : ℕ) → free_below bound (suc n)
    ≡ free_below bound n + (if bound (numbered n) then 0 else 1)
unfolding free_below
free_more bound n = refl

one_of_two : (v : Bool) (n f b : ℕ) → f + b ≡ n → (f + (if v then 0 else 1)) + (b + (if v then 1 else 0)) ≡ suc n
one_of_two true n f b h = omega arith
one_of_two false n f b h = omega arith

-- Each number below `n` has either a free id or a used one, so the counts of both add up to `n`.
both_below : (bound : List ℕ → Bool) (n : ℕ) → free_below bound n + bound_below bound n ≡ n
unfolding free_below bound_below
both_below bound zero = refl
both_below bound (suc n) = one_of_two (bound (numbered n)) n _ _ (both_below bound n)

either_more : (a b c : Bool) (x y z : ℕ) → (c ≡ true → (a || b) ≡ true) → z ≤ x + y
    → z + (if c then 1 else 0) ≤ (x + (if a then 1 else 0)) + (y + (if b then 1 else 0))
either_more true b true x y z h l = grind arith
either_more true b false x y z h l = grind arith
either_more false true true x y z h l = omega arith
either_more false true false x y z h l = omega arith
either_more false false true x y z h l = let e = h refl in cc
either_more false false false x y z h l = omega arith

-- If each id that passes `u` passes `s` or `t`, `u` has at most the sum of their counts.
either_below : (s t u : List ℕ → Bool) (n : ℕ) → ((i : List ℕ) → u i ≡ true → (s i || t i) ≡ true)
    → bound_below u n ≤ bound_below s n + bound_below t n
unfolding bound_below
either_below s t u zero h = omega arith
either_below s t u (suc n) h = either_more (s (numbered n)) (t (numbered n)) (u (numbered n)) _ _ _ (h (numbered n))
    (either_below s t u n h)

none_below : (s : List ℕ → Bool) (n : ℕ) → ((m : ℕ) → m < n → s (numbered m) ≡ false) → bound_below s n ≡ 0
unfolding bound_below
none_below s zero h = refl
none_below s (suc n) h = rw (h n (omega arith)) (omega (arith, none_below s n (λ m l. h m (omega arith))))

another : (x : List ℕ) (m n : ℕ) → m < n → same_text (numbered n) x ≡ true → (w : Bool) → same_text (numbered m) x ≡ w
    → w ≡ false
another x m n k e false q = refl
another x m n k e true q =
    let p : numbered m ≡ numbered n = (same_text_decides (numbered m) x).0 q
    ∙ sym ((same_text_decides (numbered n) x).0 e) in
    let r : m ≡ n = numbered_is m n p in
    absurd (omega arith)

once_more_below : (x : List ℕ) (n : ℕ) → (v : Bool) → same_text (numbered n) x ≡ v →
    bound_below (λ i. same_text i x) n ≤ 1 → bound_below (λ i. same_text i x) n + (if v then 1 else 0) ≤ 1
once_more_below x n false e l = omega arith
once_more_below x n true e l =
    let z : bound_below (λ i. same_text i x) n ≡ 0 =
    none_below (λ i. same_text i x) n (λ m k. another x m n k e (same_text (numbered m) x) refl) in
    omega arith

-- An id is the id of at most one number.
once_below : (x : List ℕ) (n : ℕ) → bound_below (λ i. same_text i x) n ≤ 1
unfolding bound_below
once_below x zero = omega arith
once_below x (suc n) = once_more_below x n (same_text (numbered n) x) refl (once_below x n)

-- The count of numbers whose ids are in a list is at most the length of the list.
ids_below : (xs : List (List ℕ)) (n : ℕ) → bound_below (λ i. list_any (same_text i) xs) n ≤ length xs
ids_below [] n = omega (arith, none_below (λ i. false) n (λ m k. refl))
ids_below (x ∷ xs) n =
    let a = either_below (λ i. same_text i x) (λ i. list_any (same_text i) xs) (λ i. list_any (same_text i) (x ∷ xs)) n
    (λ i e. e) in
    omega (arith, once_below x n, ids_below xs n, a)

alike_below : (s t : List ℕ → Bool) (n : ℕ) → ((i : List ℕ) → s i ≡ t i) → bound_below s n ≡ bound_below t n
unfolding bound_below
alike_below s t zero h = refl
alike_below s t (suc n) h = rw (h (numbered n), alike_below s t n h) refl

-- If the used ids are the ids of a list, a number is at most its count of smaller free ids plus the length of the list.
pub free_within : (bound : List ℕ → Bool) (xs : List (List ℕ)) (n : ℕ)
    → ((i : List ℕ) → bound i ≡ list_any (same_text i) xs) → n ≤ free_below bound n + length xs
free_within bound xs n q =
    let a : bound_below bound n ≡ bound_below (λ i. list_any (same_text i) xs) n = alike_below bound _ n q in
    omega (arith, a, ids_below xs n, both_below bound n)

alike_or : (a b c d : Bool) → a ≡ c → b ≡ d → (a || b) ≡ (c || d)
alike_or a b c d p q = cc

-- An id is in use exactly if it is the id of a policy or a body.
pub bound_among_ids : (b : SetParts) (i : List ℕ) → is_bound b i ≡ list_any (same_text i) (ids_of b)
bound_among_ids b i =
    alike_or _ _ _ _ (sym (any-map policy_id (same_text i) b.policies))
    (sym (any-map (λ (t : BodyParts). t.id) (same_text i) b.bodies))
    ∙ sym (list_any-append (same_text i) (policy_ids b) (body_ids b))

pub either_among_ids : (here other : SetParts) (i : List ℕ)
    → is_bound_in_either here other i ≡ list_any (same_text i) (ids_of here ++ ids_of other)
either_among_ids here other i =
    alike_or _ _ _ _ (bound_among_ids here i) (bound_among_ids other i)
    ∙ sym (list_any-append (same_text i) (ids_of here) (ids_of other))

-- The count of the ids of two sets, with the ids of static policies twice.
abbrev pub count : SetParts → SetParts → ℕ
count here other = (length here.policies + length here.bodies) + (length other.policies + length other.bodies)

length_ids : (b : SetParts) → length (ids_of b) ≡ length b.policies + length b.bodies
length_ids b = length-append (policy_ids b) (body_ids b)
    ∙ (λ j. length-map b.policies policy_id j + length-map b.bodies (λ (t : BodyParts). t.id) j)

-- A number is at most the count of the free ids below it plus the count of all ids.
pub number_within : (here other : SetParts) (n : ℕ)
    → n ≤ free_below (is_bound_in_either here other) n + count here other
number_within here other n =
    omega (
      arith,
      free_within (is_bound_in_either here other) (ids_of here ++ ids_of other) n
          (either_among_ids here other),
      length-append (ids_of here) (ids_of other),
      length_ids here,
      length_ids other,
    )

-- A used id does not change the count of free ids.
pub passed : (bound : List ℕ → Bool) (n : ℕ) → bound (numbered n) ≡ true → free_below bound (suc n) ≡ free_below bound n
passed bound n t = free_more bound n ∙ rw t (add-zero (free_below bound n))

-- A free id increases the count of free ids by one.
pub counted : (bound : List ℕ → Bool) (n : ℕ) → bound (numbered n) ≡ false
    → free_below bound (suc n) ≡ free_below bound n + 1
counted bound n t = free_more bound n ∙ rw t refl

-- The next free id extends a list of consecutive free ids.
pub free_push : (bound : List ℕ → Bool) (k : ℕ) (is : List (List ℕ)) (n : ℕ) → AreFree bound k is
    → IsFree bound (k + length is) n → AreFree bound k (is ++ numbered n ∷ [])
free_push bound k [] n a f = ((n, refl, (f.0, f.1 ∙ omega arith)), tt)
free_push bound k (i ∷ is) n a f = (a.0, free_push bound (k + 1) is n a.1 (f.0, f.1 ∙ omega arith))

-- A search that found no free id yet has passed at most as many numbers as there are ids. It continues after a used id.
pub one_on : (here other : SetParts) (start n : ℕ) (i : List ℕ) →
    n ≤ free_below (is_bound_in_either here other) start + count here other
    → free_below (is_bound_in_either here other) n ≡ free_below (is_bound_in_either here other) start →
    i ≡ numbered n → is_bound_in_either here other i ≡ true →
    (n + 1 ≤ free_below (is_bound_in_either here other) start + count here other)
    × (free_below (is_bound_in_either here other) (n + 1) ≡ free_below (is_bound_in_either here other) start)
one_on here other start n i w e q t =
    let b = is_bound_in_either here other in
    let f : free_below b (suc n) ≡ free_below b start = passed b n (ap b (sym q) ∙ t) ∙ e in
    let s : n + 1 ≡ suc n = omega arith in
    rw s ((omega (arith, number_within here other (suc n), f), f))

pub none_free_below : (bound : List ℕ → Bool) → free_below bound zero ≡ 0
unfolding free_below
none_free_below bound = refl

absent_at : (v : Bool) (j : List ℕ) (r : Option (List ℕ)) → v ≡ false → r ≡ None → cond v (Some j) r ≡ None
absent_at v j r e f = ap (λ w. cond w (Some j) r) e ∙ f

-- An id that is not a key has no value.
pub absent_key : (es : List (List ℕ × List ℕ)) (i : List ℕ) → list_any (same_text i) (keys_of es) ≡ false
    → lookup (same_text i) es ≡ None
absent_key [] i n = refl
absent_key (e ∷ es) i n = absent_at (same_text i e.0) e.1 (lookup (same_text i) es) (or_parts _ _ n).0
    (absent_key es i (or_parts _ _ n).1)

-- In a list without duplicates, an id is not among the ids before it.
pub before_once : (ks : List (List ℕ)) (i : List ℕ) (rest : List (List ℕ))
    → AreOnce (λ (j : List ℕ). j) (ks ++ i ∷ rest) → list_any (same_text i) ks ≡ false
before_once [] i rest h = refl
before_once (k ∷ ks) i rest h =
    let n = or_parts (list_any (same_text k) ks) (list_any (same_text k) (i ∷ rest))
    (sym (list_any-append (same_text k) ks (i ∷ rest)) ∙ h.0) in
    alike_or _ _ _ _ (same_text_equiv.symm i k ∙ (or_parts (same_text k i) _ n.1).0) (before_once ks i rest h.1)

-- The next id and its free id extend the renaming.
pub fresh_more : (bound : List ℕ → Bool) (es fs : List (List ℕ
    × List ℕ)) (i v : List ℕ) (rest ids : List (List ℕ)) (start n : ℕ) → fs ≡ es ++ (i, v) ∷ []
    → keys_of es ++ (i ∷ rest) ≡ ids →
    AreFree bound 0 (values_of es) → free_below bound start ≡ length (values_of es) → v ≡ numbered n
    → IsFree bound (free_below bound start) n →
    (keys_of fs ++ rest ≡ ids) × AreFree bound 0 (values_of fs) × (free_below bound (n + 1) ≡ length (values_of fs))
fresh_more bound es fs i v rest ids start n g k a c q f =
    let ks : keys_of fs ≡ keys_of es ++ i ∷ [] = ap keys_of g
    ∙ map-append (λ (e : List ℕ × List ℕ). e.0) es ((i, v) ∷ []) in
    let vs : values_of fs ≡ values_of es ++ numbered n ∷ [] = ap values_of g
    ∙ map-append (λ (e : List ℕ × List ℕ). e.1) es ((i, v) ∷ []) ∙ ap (λ w. values_of es ++ w ∷ []) q in
    let one : n + 1 ≡ suc n = omega arith in
    let place : free_below bound start ≡ 0 + length (values_of es) = c ∙ omega arith in (
      ap (λ x. x ++ rest) ks ∙ append_assoc (keys_of es) (i ∷ []) rest ∙ k,
      subst (AreFree bound 0) (sym vs) (free_push bound 0 (values_of es) n a (f.0, f.1 ∙ place)),
      ap (free_below bound) one ∙ counted bound n f.0 ∙ ap (λ x. x + 1) (f.1 ∙ c)
          ∙ sym (ap length vs ∙ length-append (values_of es) (numbered n ∷ [])),
    )
