-- The text of a list of slots, after one more slot is written.
use Rattle.std.proofs.Common.{◌≡◌, ℕ, ◌+◌, ◌<◌, Bool, true, List, [], ◌∷◌, ◌++◌, zero, suc, length, take, get_or, arith}
use Rattle.std.proofs.Common.{ap, sym, ◌∙◌, append-nil}
use Rattle.std.specs.List.{flat_map, list_all}
use Rattle.std.specs.Fmt.{HasWritten}
use Rattle.std.specs.declared.fmt.Formatter.{Formatter}
use Rattle.std.proofs.lemmas.Bool.{and_parts}
use Rattle.std.proofs.lemmas.Grind.{flat_map-append, put_two}
use Rattle.std.proofs.lemmas.List.{take_more}

all_get : {X : Type 0} (P : X → Bool) (xs : List X) (i : ℕ) (d : X) → i < length xs → list_all P xs ≡ true
    → P (get_or xs i d) ≡ true
all_get P [] i d l h = absurd (omega arith)
all_get P (x ∷ xs) zero d l h = (and_parts (P x) (list_all P xs) h).0
all_get P (x ∷ xs) (suc i) d l h = all_get P xs i d (omega arith) (and_parts (P x) (list_all P xs) h).1

text_more : {X : Type 0} (T : X → List ℕ) (xs : List X) (i : ℕ) (d : X) → i < length xs
    → flat_map T (take i xs) ++ T (get_or xs i d) ≡ flat_map T (take (i + 1) xs)
text_more T xs i d l =
    sym (ap (flat_map T) (take_more xs i d l) ∙ flat_map-append T (take i xs) (get_or xs i d ∷ [])
    ∙ ap (λ t. flat_map T (take i xs) ++ t) (append-nil (T (get_or xs i d))))

pub written_more : {W X : Type 0} (took : W → List ℕ → W → Type 0) (P : X → Bool) (T : X → List ℕ) (xs : List X) (i : ℕ)
    (d : X) (f g h : Formatter W) → i < length xs → list_all P xs ≡ true
    → HasWritten took f (flat_map T (take i xs)) g
    → (P (get_or xs i d) ≡ true → HasWritten took g (T (get_or xs i d)) h)
    → HasWritten took f (flat_map T (take (i + 1) xs)) h
written_more took P T xs i d f g h l all before step =
    put_two took f g h (flat_map T (take i xs)) (T (get_or xs i d)) (flat_map T (take (i + 1) xs)) before
    (step (all_get P xs i d l all)) (text_more T xs i d l)
