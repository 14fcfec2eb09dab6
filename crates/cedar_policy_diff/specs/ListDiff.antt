-- The difference of two lists of values with ids, and its application to the first list.
use Rattle.std.specs.Prelude.{◌≡◌, ℕ, List, ◌++◌, Bool, not, map, Option, Some, None, if◌then◌else◌}
use Rattle.std.specs.List.{filter, filter_map, find, list_any}
use Rattle.cedar_ids.specs.Texts.{same_text}

-- The first value with an id, if there is one.
abbrev pub value_at : {A : Type 0} → (A → List ℕ) → List A → List ℕ → Option A
value_at id xs i = find (λ x. same_text i (id x)) xs

-- Whether a list has a value with an id.
abbrev pub has_id : {A : Type 0} → (A → List ℕ) → List A → List ℕ → Bool
has_id id xs i = list_any (λ x. same_text i (id x)) xs

-- The values of the first list whose ids the second list does not have, in the order of the first list.
abbrev pub only_in_first : {A : Type 0} → (A → List ℕ) → List A → List A → List A
only_in_first id xs ys = filter (λ x. not (has_id id ys (id x))) xs

-- The value before and the value after, unless they are equal. `None` if there was no value before.
abbrev pub change : {A : Type 0} → (A → A → Bool) → Option A → A → Option (A × A)
change same None y = None
change same (Some x) y = if same x y then None else Some (x, y)

-- The ids that both lists have, but with unequal values: the values of both lists, in the order of the second list.
abbrev pub changes : {A : Type 0} → (A → List ℕ) → (A → A → Bool) → List A → List A → List (A × A)
changes id same xs ys = filter_map (λ y. change same (value_at id xs (id y)) y) ys

-- The values after some changes.
abbrev pub values_after : {A : Type 0} → List (A × A) → List A
values_after cs = map (λ c. c.1) cs

-- The list after removals and insertions. A new value replaces the value with its id. The values that stay come first, in
-- their order, and then the new values.
abbrev pub patched : {A : Type 0} → (A → List ℕ) → List A → List A → List A → List A
patched id xs removed new = filter (λ x. not (has_id id (removed ++ new) (id x))) xs ++ new

-- Whether two lists have the same value for each id.
abbrev pub IsSameMap : {A : Type 0} → (A → List ℕ) → List A → List A → Type 0
IsSameMap id xs ys = (i : List ℕ) → value_at id xs i ≡ value_at id ys i
