-- Laws of the difference of two lists of values with ids:
--
-- - `applied`: applied to the first list, the difference gives the values of the second list.
-- - `none_only`, `none_changed`: lists with the same values have an empty difference.
--
-- No two values of the second list may have the same id.
use Rattle.std.specs.Prelude.{◌≡◌, ℕ, List, [], ◌∷◌, ◌++◌, Bool, true, false, not, ◌||◌, ◌&&◌, Option, Some, None}
use Rattle.std.specs.Prelude.{is_some, refl}
use Rattle.std.specs.List.{filter, cons_option, find, list_any}
use Rattle.std.specs.Option.{option_or}
use Rattle.std.proofs.Common.{cond, sym, ap, ◌∙◌, arith}
use Rattle.std.proofs.lemmas.Grind.{common_steps}
use Rattle.std.proofs.lemmas.List.{append-nil}
use Rattle.std.proofs.lemmas.List.Folds.{find-append, list_any-append}
use Rattle.cedar_ids.specs.Texts.{same_text}
use Rattle.cedar_ids.specs.laws.TextLaws.{same_text_equiv, same_text_decides}
use Rattle.cedar_policy_diff.specs.ListDiff.{value_at, has_id, only_in_first, change, changes, values_after}
use Rattle.cedar_policy_diff.specs.ListDiff.{patched, IsSameMap}
use Rattle.cedar_policy_maps.specs.PolicySets.{AreOnce}
use Rattle.cedar_policy_maps.specs.laws.OnceLaws.{is_at, no_other}

-- A list has a value with an id exactly if a search finds one.
pub any_is_found : {X : Type 0} (t : X → Bool) (xs : List X) → list_any t xs ≡ is_some (find t xs)
any_is_found t [] = refl
any_is_found t (x ∷ xs) = grind (arith, common_steps, any_is_found t xs)

kept_id : {A : Type 0} (id : A → List ℕ) (keep : List ℕ → Bool) (i : List ℕ) (x : A) → same_text i (id x) ≡ true
    → keep i ≡ keep (id x)
kept_id id keep i x e = ap keep ((same_text_decides i (id x)).0 e)

-- A search by an id in a list that is filtered by the ids.
pub found_by_id : {A : Type 0} (id : A → List ℕ) (keep : List ℕ → Bool) (i : List ℕ) (xs : List A)
    → value_at id (filter (λ x. keep (id x)) xs) i ≡ cond (keep i) (value_at id xs i) None
found_by_id id keep i [] = grind (arith, common_steps)
found_by_id id keep i (x ∷ xs) = grind (arith, common_steps, kept_id id keep i x, found_by_id id keep i xs)

-- The value that passes a test, if there is one.
abbrev pub if_passes : {A : Type 0} → (A → Bool) → Option A → Option A
if_passes p None = None
if_passes p (Some x) = cond (p x) (Some x) None

none_later : {A : Type 0} (id : A → List ℕ) (i : List ℕ) (x : A) (xs : List A) → AreOnce id (x ∷ xs)
    → same_text i (id x) ≡ true → value_at id xs i ≡ None
none_later id i x xs h e = unfound (is_at id i) xs (no_other id i x xs h e)
  where
    unfound : {X : Type 0} (t : X → Bool) (xs : List X) → list_any t xs ≡ false → find t xs ≡ None
    unfound t [] h = refl
    unfound t (x ∷ xs) h = grind (arith, common_steps, unfound t xs)

-- A search by an id in a filtered list, if no two values have the same id.
pub found_once : {A : Type 0} (id : A → List ℕ) (p : A → Bool) (i : List ℕ) (xs : List A) → AreOnce id xs
    → value_at id (filter p xs) i ≡ if_passes p (value_at id xs i)
found_once id p i [] h = refl
found_once id p i (x ∷ xs) h = grind (arith, common_steps, none_later id i x xs h, found_once id p i xs h.1)

-- Whether there is a value before that differs from the value after, and the two pass a test.
abbrev pub is_change : {A : Type 0} → (A → A → Bool) → (A × A → Bool) → Option A → A → Bool
is_change same p None y = false
is_change same p (Some x) y = not (same x y) && p (x, y)

-- The value after a change, if the values of an id before and after differ.
abbrev pub if_changed : {A : Type 0} → (A → A → Bool) → Option A → Option A → Option A
if_changed same o n = if_passes (is_change same (λ _. true) o) n

after_step : {A : Type 0} (same : A → A → Bool) (p : A × A → Bool) (o : Option A) (y : A) (cs : List (A × A))
    (ys : List A) → values_after (filter p cs) ≡ ys
    → values_after (filter p (cons_option (change same o y) cs)) ≡ cond (is_change same p o y) (y ∷ ys) ys
after_step same p None y cs ys h = h
after_step same p (Some x) y cs ys h = by_tests (same x y) (p (x, y)) refl
  where
    by_tests : (s q : Bool) → q ≡ p (x, y)
        → values_after (filter p (cons_option (cond s None (Some (x, y))) cs)) ≡ cond (not s && q) (y ∷ ys) ys
    by_tests true q e = h
    by_tests false true e = grind (arith, common_steps, h, e)
    by_tests false false e = grind (arith, common_steps, h, e)

-- The values after the changes that pass a test are values of the second list, in its order.
pub changes_are : {A : Type 0} (id : A → List ℕ) (same : A → A → Bool) (p : A × A → Bool) (xs ys : List A)
    → values_after (filter p (changes id same xs ys)) ≡ filter (λ y. is_change same p (value_at id xs (id y)) y) ys
changes_are id same p xs [] = refl
changes_are id same p xs (y ∷ ys) =
    after_step same p (value_at id xs (id y)) y (changes id same xs ys)
    (filter (λ y. is_change same p (value_at id xs (id y)) y) ys) (changes_are id same p xs ys)

-- The id of a value that a search by an id finds.
found_id : {A : Type 0} (id : A → List ℕ) (i : List ℕ) (xs : List A) (x : A) → value_at id xs i ≡ Some x → i ≡ id x
found_id id i [] x e = absurd (cc)
found_id id i (y ∷ ys) x e = grind (arith, common_steps, (same_text_decides i (id y)).0, found_id id i ys x)

-- The value of an id after the changes that pass a test, if no two values of the second list have the same id.
pub changed_at : {A : Type 0} (id : A → List ℕ) (same : A → A → Bool) (p : A × A → Bool) (xs ys : List A) (i : List ℕ)
    → AreOnce id ys → value_at id (values_after (filter p (changes id same xs ys))) i
    ≡ if_passes (is_change same p (value_at id xs i)) (value_at id ys i)
changed_at {A = A} id same p xs ys i h =
    ap (λ zs. value_at id zs i) (changes_are id same p xs ys)
    ∙ found_once id (λ y. is_change same p (value_at id xs (id y)) y) i ys h
    ∙ at_id (value_at id ys i) refl
  where
    at_id : (n : Option A) → value_at id ys i ≡ n → if_passes (λ y. is_change same p (value_at id xs (id y)) y) n
        ≡ if_passes (is_change same p (value_at id xs i)) n
    at_id None e = refl
    at_id (Some y) e = ap (λ j. cond (is_change same p (value_at id xs j) y) (Some y) None) (sym (found_id id i ys y e))

-- The value of an id after the difference is applied, from the values of the id in both lists.
reached : {A : Type 0} (same : A → A → Bool) (same_is : (x y : A) → same x y ≡ true → x ≡ y) (o n : Option A) →
    let new = option_or (cond (not (is_some o)) n None) (if_changed same o n) in
    option_or (cond (not (is_some (cond (not (is_some n)) o None) || is_some new)) o None) new ≡ n
reached same same_is None None = refl
reached same same_is None (Some y) = refl
reached same same_is (Some x) None = refl
reached same same_is (Some x) (Some y) = by_test (same x y) (same_is x y)
  where
    by_test : (s : Bool) → (s ≡ true → x ≡ y) →
        let new = cond (not s && true) (Some y) None in
        option_or (cond (not (false || is_some new)) (Some x) None) new ≡ Some y
    by_test true e = ap Some (e refl)
    by_test false e = refl

-- The first list patched with the added values and the values after all changes, which `fs` has, has the values of the
-- second list.
pub applied : {A : Type 0} (id : A → List ℕ) (same : A → A → Bool) (xs ys fs : List A)
    → ((x y : A) → same x y ≡ true → x ≡ y)
    → ((i : List ℕ) → value_at id fs i ≡ if_changed same (value_at id xs i) (value_at id ys i))
    → IsSameMap id (patched id xs (only_in_first id xs ys) (only_in_first id ys xs ++ fs)) ys
applied id same xs ys fs same_is changed i =
    let gone = only_in_first id xs ys in
    let new = only_in_first id ys xs ++ fs in
    let o = value_at id xs i in
    let n = value_at id ys i in
    let gone_at : value_at id gone i ≡ cond (not (is_some n)) o None =
    found_by_id id (λ j. not (has_id id ys j)) i xs ∙ ap (λ b. cond (not b) o None) (any_is_found (is_at id i) ys) in
    let added_at : value_at id (only_in_first id ys xs) i ≡ cond (not (is_some o)) n None =
    found_by_id id (λ j. not (has_id id xs j)) i ys ∙ ap (λ b. cond (not b) n None) (any_is_found (is_at id i) xs) in
    let new_at : value_at id new i ≡ option_or (cond (not (is_some o)) n None) (if_changed same o n) =
    find-append (is_at id i) (only_in_first id ys xs) fs ∙ (λ k. option_or (added_at k) (changed i k)) in
    let has_new : has_id id (gone ++ new) i ≡ (is_some (value_at id gone i) || is_some (value_at id new i)) =
    list_any-append (is_at id i) gone new
    ∙ (λ k. any_is_found (is_at id i) gone k || any_is_found (is_at id i) new k) in
    find-append (is_at id i) (filter (λ x. not (has_id id (gone ++ new) (id x))) xs) new
    ∙ ap (λ v. option_or v (value_at id new i)) (found_by_id id (λ j. not (has_id id (gone ++ new) j)) i xs)
    ∙ ap (λ b. option_or (cond (not b) o None) (value_at id new i)) has_new
    ∙ (λ k. option_or (cond (not (is_some (gone_at k) || is_some (new_at k))) o None) (new_at k))
    ∙ reached same same_is o n

-- The changes that pass a test and those that do not are all changes.
pub split_at : {A : Type 0} (id : A → List ℕ) (same : A → A → Bool) (p : A × A → Bool) (xs ys : List A) (i : List ℕ)
    → AreOnce id ys
    → value_at id (values_after (filter (λ c. not (p c)) (changes id same xs ys))
    ++ values_after (filter p (changes id same xs ys))) i
    ≡ if_changed same (value_at id xs i) (value_at id ys i)
split_at {A = A} id same p xs ys i h =
    find-append (is_at id i) (values_after (filter (λ c. not (p c)) (changes id same xs ys)))
    (values_after (filter p (changes id same xs ys)))
    ∙ (λ k. option_or (changed_at id same (λ c. not (p c)) xs ys i h k) (changed_at id same p xs ys i h k))
    ∙ by_values (value_at id xs i) (value_at id ys i)
  where
    by_tests : (s q : Bool) (y : A) → option_or (cond (not s && not q) (Some y) None) (cond (not s && q) (Some y) None)
        ≡ cond (not s && true) (Some y) None
    by_tests true q y = refl
    by_tests false true y = refl
    by_tests false false y = refl

    by_values : (o n : Option A)
        → option_or (if_passes (is_change same (λ c. not (p c)) o) n) (if_passes (is_change same p o) n)
        ≡ if_changed same o n
    by_values o None = refl
    by_values None (Some y) = refl
    by_values (Some x) (Some y) = by_tests (same x y) (p (x, y)) y

filter_all : {X : Type 0} (xs : List X) → filter (λ _. true) xs ≡ xs
filter_all [] = refl
filter_all (x ∷ xs) = ap (λ ys. x ∷ ys) (filter_all xs)

-- An empty difference changes nothing.
pub unpatched : {A : Type 0} (id : A → List ℕ) (xs : List A) → patched id xs [] [] ≡ xs
unpatched id xs = append-nil (filter (λ _. true) xs) ∙ filter_all xs

-- The value of an id after all changes.
pub all_at : {A : Type 0} (id : A → List ℕ) (same : A → A → Bool) (xs ys : List A) (i : List ℕ) → AreOnce id ys
    → value_at id (values_after (changes id same xs ys)) i
    ≡ if_changed same (value_at id xs i) (value_at id ys i)
all_at id same xs ys i h =
    ap (λ cs. value_at id (values_after cs) i) (sym (filter_all (changes id same xs ys)))
    ∙ changed_at id same (λ _. true) xs ys i h

-- ---- Lists with the same values

-- If the second list has all ids of the first, nothing is in the first list only.
pub none_only : {A : Type 0} (id : A → List ℕ) (xs ys : List A)
    → ((i : List ℕ) → has_id id xs i ≡ true → has_id id ys i ≡ true) → only_in_first id xs ys ≡ []
none_only id [] ys h = refl
none_only id (x ∷ xs) ys h =
    ap (λ b. cond (not b) (x ∷ only_in_first id xs ys) (only_in_first id xs ys))
    (h (id x) (ap (λ b. b || has_id id xs (id x)) (same_text_equiv.refl (id x))))
    ∙ none_only id xs ys (λ i e. h i (later (same_text i (id x)) (has_id id xs i) e))
  where
    later : (a b : Bool) → b ≡ true → (a || b) ≡ true
    later a b e = grind (arith, common_steps)

-- If the first list has all values of the second, nothing is changed.
pub none_changed : {A : Type 0} (id : A → List ℕ) (same : A → A → Bool) (xs ys : List A) → AreOnce id ys
    → ((x : A) → same x x ≡ true)
    → ((i : List ℕ) (y : A) → value_at id ys i ≡ Some y → value_at id xs i ≡ Some y) → changes id same xs ys ≡ []
none_changed id same xs [] h e f = refl
none_changed {A = A} id same xs (y ∷ ys) h e f =
    ap (λ o. cons_option (change same o y) (changes id same xs ys)) (f (id y) y first)
    ∙ ap (λ b. cons_option (cond b None (Some (y, y))) (changes id same xs ys)) (e y)
    ∙ none_changed id same xs ys h.1 e (λ i z g. f i z (later i z g))
  where
    first : value_at id (y ∷ ys) (id y) ≡ Some y
    first = ap (λ b. cond b (Some y) (value_at id ys (id y))) (same_text_equiv.refl (id y))

    by_test : (i : List ℕ) (z : A) (b : Bool) → same_text i (id y) ≡ b → value_at id ys i ≡ Some z
        → cond b (Some y) (value_at id ys i) ≡ Some z
    by_test i z true t g = absurd (cc (none_later id i y ys h t, g))
    by_test i z false t g = g

    later : (i : List ℕ) (z : A) → value_at id ys i ≡ Some z → value_at id (y ∷ ys) i ≡ Some z
    later i z g = by_test i z (same_text i (id y)) refl g

-- If two lists have the same values, each has all ids of the other.
pub same_ids : {A : Type 0} (id : A → List ℕ) (xs ys : List A) → IsSameMap id xs ys → (i : List ℕ)
    → has_id id xs i ≡ has_id id ys i
same_ids id xs ys h i =
    any_is_found (is_at id i) xs ∙ ap is_some (h i) ∙ sym (any_is_found (is_at id i) ys)
