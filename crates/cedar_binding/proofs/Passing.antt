-- Filtering a list that has an element which passes the test.
use Rattle.std.proofs.Common.{◌≡◌, Bool, true, false, ℕ, zero, suc, ◌<◌, List, [], ◌∷◌, length, get_or, arith, sym}
use Rattle.std.proofs.Common.{ap, ◌∙◌, if◌then◌else◌}
use Rattle.std.specs.List.{filter}

kept : {A : Type 0} (b : Bool) (y : A) (rest : List A) → b ≡ true → (if b then y ∷ rest else rest) ≡ [] → ⊥
kept true y rest pass none = cc
kept false y rest pass none = cc

left : {A : Type 0} (b : Bool) (y : A) (rest : List A) → (if b then y ∷ rest else rest) ≡ [] → rest ≡ []
left true y rest none = absurd (cc)
left false y rest none = none

-- If an element passes the test, the filtered list is not empty.
pub one_left : {A : Type 0} (p : A → Bool) (xs : List A) (i : ℕ) (x : A) → i < length xs → x ≡ get_or xs i x
    → p x ≡ true → filter p xs ≡ [] → ⊥
one_left p [] i x within at pass none = absurd (omega arith)
one_left p (y ∷ xs) zero x within at pass none = kept (p y) y (filter p xs) (sym (ap p at) ∙ pass) none
one_left p (y ∷ xs) (suc i) x within at pass none =
    one_left p xs i x (omega arith) at pass (left (p y) y (filter p xs) none)
