-- Filtering a list that has an element which passes the test.
use Rattle.std.proofs.Common.{◌≡◌, Bool, true, false, ℕ, zero, suc, ◌<◌, List, [], ◌∷◌, length, map, get_or, arith}
use Rattle.std.proofs.Common.{sym, ap, ◌∙◌, if◌then◌else◌}
use Rattle.std.specs.List.{filter}

kept : {B : Type 0} (b : Bool) (y : B) (rest : List B) → b ≡ true → (if b then y ∷ rest else rest) ≡ [] → ⊥
kept true y rest pass none = cc
kept false y rest pass none = cc

left : {B : Type 0} (b : Bool) (y : B) (rest : List B) → (if b then y ∷ rest else rest) ≡ [] → rest ≡ []
left true y rest none = absurd (cc)
left false y rest none = none

-- If the value of an element passes the test, the filtered list of values is not empty.
pub one_passes : {A B : Type 0} (f : A → B) (p : B → Bool) (xs : List A) (i : ℕ) (x : A) → i < length xs
    → x ≡ get_or xs i x → p (f x) ≡ true → filter p (map f xs) ≡ [] → ⊥
one_passes f p [] i x within at pass none = absurd (omega arith)
one_passes f p (y ∷ xs) zero x within at pass none =
    kept (p (f y)) (f y) (filter p (map f xs)) (sym (ap (λ z. p (f z)) at) ∙ pass) none
one_passes f p (y ∷ xs) (suc i) x within at pass none =
    one_passes f p xs i x (omega arith) at pass (left (p (f y)) (f y) (filter p (map f xs)) none)
