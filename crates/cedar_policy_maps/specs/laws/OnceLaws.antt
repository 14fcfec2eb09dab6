-- Lists of values with different ids: additions and removals.
use Rattle.std.specs.Prelude.{◌≡◌, ℕ, ◌+◌, ◌<◌, List, [], ◌∷◌, ◌++◌, length, Bool, true, false, not, ◌||◌, Some, None}
use Rattle.std.specs.Prelude.{refl, map, suc}
use Rattle.std.proofs.Common.{cond, sym, ap, ◌∙◌, arith, take, drop, nat_lt, ◌≤◌, get_or}
use Rattle.std.specs.List.{filter, find, list_any, remove, position, position_or_len}
use Rattle.std.specs.Option.{option_map}
use Rattle.std.proofs.lemmas.Bool.{or_parts}
use Rattle.std.proofs.lemmas.Bool.Decides.{nat_tests}
use Rattle.std.proofs.lemmas.Grind.{common_steps}
use Rattle.std.proofs.lemmas.Option.{slice_get_past, slice_get-get_or}
use Rattle.std.proofs.lemmas.List.{take-map, drop-map, map-append, length-map}
use Rattle.std.proofs.lemmas.List.Folds.{list_any-append, find_at}
use Rattle.cedar_ids.specs.Texts.{same_text}
use Rattle.cedar_ids.specs.laws.TextLaws.{same_text_equiv, same_text_decides}
use Rattle.cedar_policy_maps.specs.PolicySets.{AreOnce}

-- Whether a value has this id.
abbrev pub is_at : {A : Type 0} → (A → List ℕ) → List ℕ → A → Bool
is_at id i x = same_text i (id x)

pub any_alike : {X : Type 0} (s t : X → Bool) (xs : List X) → ((x : X) → s x ≡ t x) → list_any s xs ≡ list_any t xs
any_alike s t [] h = refl
any_alike s t (x ∷ xs) h = grind (arith, common_steps, h x, any_alike s t xs h)

-- No other element after the first one with an id has the id.
pub no_other : {A : Type 0} (id : A → List ℕ) (i : List ℕ) (x : A) (xs : List A) → AreOnce id (x ∷ xs)
    → is_at id i x ≡ true → list_any (is_at id i) xs ≡ false
no_other id i x xs h e = sym (any_alike (is_at id (id x)) (is_at id i) xs
    (λ y. ap (λ j. is_at id j y) (sym ((same_text_decides i (id x)).0 e)))) ∙ h.0

pub once_more : (a b c : Bool) → a ≡ false → b ≡ false → (a || (b || false)) ≡ false
once_more a b c p q = cc

-- Appending a value with an unused id keeps the ids different.
pub once-push : {A : Type 0} (id : A → List ℕ) (xs : List A) (x : A) → AreOnce id xs
    → list_any (is_at id (id x)) xs ≡ false → AreOnce id (xs ++ x ∷ [])
once-push id [] x h n = (refl, tt)
once-push id (y ∷ ys) x h n = (
  list_any-append (is_at id (id y)) ys (x ∷ [])
      ∙ once_more _ _ false h.0 (same_text_equiv.symm (id y) (id x) ∙ (or_parts _ _ n).0),
  once-push id ys x h.1 (or_parts _ _ n).1,
)

-- The values before an element have other ids.
pub before_at : {A : Type 0} (id : A → List ℕ) (xs : List A) (x : A) (rest : List A) → AreOnce id (xs ++ x ∷ rest)
    → list_any (is_at id (id x)) xs ≡ false
before_at id [] x rest h = refl
before_at id (y ∷ ys) x rest h =
    let n = or_parts _ _ (sym (list_any-append (is_at id (id y)) ys (x ∷ rest)) ∙ h.0) in
    neither _ _ (same_text_equiv.symm (id x) (id y) ∙ (or_parts _ _ n.1).0) (before_at id ys x rest h.1)
  where
    neither : (a b : Bool) → a ≡ false → b ≡ false → (a || b) ≡ false
    neither a b p q = cc

pub filter_none : {X : Type 0} (t : X → Bool) (xs : List X) → list_any t xs ≡ false → filter (λ x. not (t x)) xs ≡ xs
filter_none t [] h = refl
filter_none t (x ∷ xs) h = grind (arith, common_steps, filter_none t xs)

pub any-filter_none : {X : Type 0} (p t : X → Bool) (xs : List X) → list_any t xs ≡ false
    → list_any t (filter p xs) ≡ false
any-filter_none p t [] h = refl
any-filter_none p t (x ∷ xs) h = grind (arith, common_steps, any-filter_none p t xs)

once_kept : {A : Type 0} (id : A → List ℕ) (v : Bool) (x : A) (xs : List A) → list_any (is_at id (id x)) xs ≡ false
    → AreOnce id xs → AreOnce id (cond v (x ∷ xs) xs)
once_kept id true x xs n h = (n, h)
once_kept id false x xs n h = h

-- Filtering keeps the ids different.
pub once-filter : {A : Type 0} (id : A → List ℕ) (p : A → Bool) (xs : List A) → AreOnce id xs → AreOnce id (filter p xs)
once-filter id p [] h = tt
once-filter id p (x ∷ xs) h = once_kept id (p x) x (filter p xs) (any-filter_none p (is_at id (id x)) xs h.0)
    (once-filter id p xs h.1)

one_more : (k : ℕ) → 1 + k ≡ suc k
one_more k = omega arith

removed-at : {A : Type 0} (v : Bool) (x : A) (xs fs : List A) (k : ℕ) → (v ≡ true → fs ≡ xs) → remove xs k ≡ fs →
    remove (x ∷ xs) (cond (not v) (1 + k) 0) ≡ cond (not v) (x ∷ fs) fs
removed-at true x xs fs k n e = sym (n refl)
removed-at false x xs fs k n e = ap (λ n. remove (x ∷ xs) n) (one_more k) ∙ ap (λ ys. x ∷ ys) e

-- Removing the first element with an id removes the only one.
removed : {A : Type 0} (id : A → List ℕ) (i : List ℕ) (xs : List A) → AreOnce id xs
    → remove xs (position_or_len (is_at id i) xs) ≡ filter (λ x. not (is_at id i x)) xs
removed id i [] h = refl
removed id i (x ∷ xs) h =
    removed-at (is_at id i x) x xs (filter (λ y. not (is_at id i y)) xs) (position_or_len (is_at id i) xs)
    (λ q. filter_none (is_at id i) xs (no_other id i x xs h q)) (removed id i xs h.1)

place_at : (v : Bool) (p k n : ℕ) → nat_lt p n ≡ v → cond v (Some p) None ≡ Some k → (p ≡ k) × (p < n)
place_at true p k n l e = (cc, grind (arith, nat_tests))
place_at false p k n l e = cc

-- The index of the first element that passes a test is below the length.
pub place_is : {X : Type 0} (t : X → Bool) (xs : List X) (k : ℕ) → position t xs ≡ Some k → (position_or_len t xs ≡ k)
    × (position_or_len t xs < length xs)
place_is t xs k e = place_at (nat_lt (position_or_len t xs) (length xs)) _ _ _ refl e

no_place_at : (v : Bool) (p n : ℕ) → nat_lt p n ≡ v → cond v (Some p) None ≡ None → n ≤ p
no_place_at true p n l e = cc
no_place_at false p n l e = grind (arith, nat_tests)

pub find-none : {X : Type 0} (t : X → Bool) (xs : List X) → position t xs ≡ None → find t xs ≡ None
find-none t xs e = find_at t xs ∙ slice_get_past xs _ (no_place_at
    (nat_lt (position_or_len t xs) (length xs)) _ _ refl e)

-- Removing the element at the index of an id removes the elements with the id.
pub removed_at : {A : Type 0} (id : A → List ℕ) (i : List ℕ) (xs : List A) (k : ℕ) → AreOnce id xs
    → position (is_at id i) xs ≡ Some k → remove xs k ≡ filter (λ x. not (is_at id i x)) xs
removed_at id i xs k h e = ap (remove xs) (sym (place_is (is_at id i) xs k e).0) ∙ removed id i xs h

-- The removed element is the one that a search finds.
pub taken_is : {A : Type 0} (t : A → Bool) (xs : List A) (k : ℕ) (x : A) → position t xs ≡ Some k → x ≡ get_or xs k x
    → find t xs ≡ Some x
taken_is t xs k x e g =
    let p = place_is t xs k e in
    find_at t xs ∙ slice_get-get_or xs (position_or_len t xs) x p.1 ∙ ap (λ n. Some (get_or xs n x)) p.0
    ∙ ap Some (sym g)

pub none_is : {X : Type 0} (t : X → Bool) (xs : List X) → find t xs ≡ None → list_any t xs ≡ false
none_is t [] h = refl
none_is t (x ∷ xs) h = grind (arith, common_steps, none_is t xs)

pub find-unless : {X : Type 0} (t : X → Bool) (xs : List X) → list_any t xs ≡ false → find t xs ≡ None
find-unless t [] h = refl
find-unless t (x ∷ xs) h = grind (arith, common_steps, find-unless t xs)

-- A search still finds its element after another one is appended.
pub find-push : {X : Type 0} (t : X → Bool) (xs : List X) (y x : X) → find t xs ≡ Some x
    → find t (xs ++ y ∷ []) ≡ Some x
find-push t [] y x h = cc
find-push t (z ∷ zs) y x h = grind (arith, common_steps, find-push t zs y x)

-- A search still finds its element after elements are removed that fail its test.
pub find-filter : {X : Type 0} (p t : X → Bool) (xs : List X) → ((x : X) → t x ≡ true → p x ≡ true)
    → find t (filter p xs) ≡ find t xs
find-filter p t [] h = refl
find-filter p t (x ∷ xs) h = grind (arith, common_steps, h x, find-filter p t xs h)

-- The element that a search finds passes the test.
pub found_passes : {X : Type 0} (t : X → Bool) (xs : List X) (x : X) → find t xs ≡ Some x → t x ≡ true
found_passes t [] x h = cc
found_passes t (y ∷ ys) x h = grind (arith, common_steps, found_passes t ys x)

-- A search in a mapped list.
pub find-map : {X Y : Type 0} (f : X → Y) (t : Y → Bool) (xs : List X)
    → find t (map f xs) ≡ option_map f (find (λ x. t (f x)) xs)
find-map f t [] = refl
find-map f t (x ∷ xs) = grind (arith, common_steps, find-map f t xs)

pub any-map : {X Y : Type 0} (f : X → Y) (t : Y → Bool) (xs : List X)
    → list_any t (map f xs) ≡ list_any (λ x. t (f x)) xs
any-map f t [] = refl
any-map f t (x ∷ xs) = ap (λ v. t (f x) || v) (any-map f t xs)

pub map-remove : {X Y : Type 0} (f : X → Y) (xs : List X) (k : ℕ) → map f (remove xs k) ≡ remove (map f xs) k
map-remove f xs k = map-append f (take k xs) (drop (suc k) xs) ∙ cc (take-map f k xs, drop-map f (suc k) xs)

place_or_len-map : {X Y : Type 0} (f : X → Y) (t : Y → Bool) (xs : List X)
    → position_or_len t (map f xs) ≡ position_or_len (λ x. t (f x)) xs
place_or_len-map f t [] = refl
place_or_len-map f t (x ∷ xs) = ap (λ k. cond (not (t (f x))) (1 + k) 0) (place_or_len-map f t xs)

pub place-map : {X Y : Type 0} (f : X → Y) (t : Y → Bool) (xs : List X)
    → position t (map f xs) ≡ position (λ x. t (f x)) xs
place-map f t xs = λ i. cond (nat_lt (place_or_len-map f t xs i) (length-map xs f i))
    (Some (place_or_len-map f t xs i)) None
