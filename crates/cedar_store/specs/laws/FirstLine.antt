-- The first line of a list of bytes.
use Rattle.std.specs.Prelude.{◌≡◌, ℕ, zero, suc, ◌<◌, List, [], ◌∷◌, ◌==◌, Bool, true, false, Option, Some, None}
use Rattle.std.specs.Prelude.{length, slice_index, take, drop, refl}
use Rattle.std.proofs.Common.{ap, ◌∙◌, arith}
use Rattle.std.specs.List.{slice_split, onto_first}
use Rattle.std.proofs.lemmas.List.Splits.{slice_split-cons_yes, slice_split-cons_no}

-- The lines of the remaining bytes, if there are any.
abbrev pub lines_left : Option (List ℕ) → List (List ℕ)
lines_left None = []
lines_left (Some xs) = slice_split (λ b. b == 10) xs

pub fails : (v : Bool) → (v ≡ true → ⊥) → v ≡ false
fails true n = absurd (n refl)
fails false n = refl

-- The bytes before the first line feed are the first line. The bytes after it are the other lines.
pub ends_before : (xs rest : List ℕ) (i f : ℕ) → drop i xs ≡ f ∷ rest
    → ((k : ℕ) → k < i → slice_index xs k == 10 ≡ false) → slice_index xs i == 10 ≡ true →
    slice_split (λ b. b == 10) xs ≡ take i xs ∷ slice_split (λ b. b == 10) rest
ends_before [] rest zero f d n e = absurd (cc)
ends_before [] rest (suc i) f d n e = absurd (cc)
ends_before (x ∷ xs) rest zero f d n e =
    let same : xs ≡ rest = cc in
    slice_split-cons_yes (λ b. b == 10) x xs e ∙ ap (λ ys. [] ∷ slice_split (λ b. b == 10) ys) same
ends_before (x ∷ xs) rest (suc i) f d n e =
    slice_split-cons_no (λ b. b == 10) x xs (n 0 (omega arith))
    ∙ ap (onto_first x) (ends_before xs rest i f d (λ k m. n (suc k) (omega arith)) e)

-- Bytes without a line feed are one line.
pub only_line : (xs : List ℕ) → ((k : ℕ) → k < length xs → slice_index xs k == 10 ≡ false)
    → slice_split (λ b. b == 10) xs ≡ xs ∷ []
only_line [] n = refl
only_line (x ∷ xs) n = slice_split-cons_no (λ b. b == 10) x xs (n 0 (omega arith))
    ∙ ap (onto_first x) (only_line xs (λ k m. n (suc k) (omega arith)))
