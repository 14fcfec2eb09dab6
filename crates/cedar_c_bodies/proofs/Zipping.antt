-- Two lists whose elements are related pairwise, with one more pair, and properties of the element at an index.
use Rattle.std.proofs.Common.{◌≡◌, ◌++◌, ◌+◌, ◌<◌, ℕ, List, [], ◌∷◌, length, map, refl, take}
use Rattle.std.proofs.Math.ListN.{get_or}
use Rattle.std.proofs.lemmas.List.{take_more}
use Rattle.std.proofs.lemmas.Option.{slice_get-get_or}
use Rattle.std.specs.List.{AllZip}
use Rattle.std.specs.Prelude.{Some, slice_get}
use Rattle.cedar_c_lists.specs.laws.Zipping.{zip_more}

-- One more element is read from the next part.
pub read_next : {A B : Type 0} (R : A → B → Type 0) (xs : List A) (ys : List B) (k : ℕ) (d : B) (x : A)
    → k < length ys → AllZip R xs (take k ys) → R x (get_or ys k d) → AllZip R (xs ++ x ∷ []) (take (k + 1) ys)
read_next R xs ys k d x l z r = rw (take_more ys k d l) (zip_more R xs (take k ys) x (get_or ys k d) z r)

map_more : {A B : Type 0} (f : A → B) (xs : List A) (x : A) → map f (xs ++ x ∷ []) ≡ map f xs ++ f x ∷ []
map_more f [] x = refl
map_more f (a ∷ xs) x = λ i. f a ∷ map_more f xs x i

-- One more element is written as the next text.
pub told_next : {A B C : Type 0} (R : B → C → Type 0) (f : A → B) (xs : List A) (ys : List C) (k : ℕ) (d : A) (y : C)
    → k < length xs → AllZip R (map f (take k xs)) ys → R (f (get_or xs k d)) y
    → AllZip R (map f (take (k + 1) xs)) (ys ++ y ∷ [])
told_next R f xs ys k d y l z r =
    rw (take_more xs k d l, map_more f (take k xs) (get_or xs k d))
    (zip_more R (map f (take k xs)) ys (f (get_or xs k d)) y z r)

-- A property of the element at an index is a property of some element.
pub so_at : {A : Type 0} (P : A → Type 0) (xs : List A) (k : ℕ) (d : A) → k < length xs → P (get_or xs k d)
    → (i : ℕ) × (x : A) × (slice_get xs i ≡ Some x) × P x
so_at P xs k d l p = (k, get_or xs k d, slice_get-get_or xs k d l, p)
