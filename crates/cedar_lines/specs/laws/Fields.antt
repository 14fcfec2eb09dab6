-- The places of tabs in a line, and the ends of its fields.
use Rattle.std.specs.Prelude.{◌≡◌, ℕ, zero, suc, ◌+◌, ◌-◌, ◌<◌, ◌≤◌, List, [], ◌∷◌, ◌==◌, true, false, length, min, take, drop, slice_index}
use Rattle.std.proofs.Common.{ap, subst, sym, ◌∙◌, refl, arith, length-drop, get_or-drop, drop-drop}
use Rattle.std.specs.Int.{bit_at}
use Rattle.std.specs.List.{slice_split, onto_first}
use Rattle.std.proofs.lemmas.List.Splits.{slice_split-cons_yes, slice_split-cons_no}

-- Whether there is a tab at a place.
abbrev pub HasTabAt : List ℕ → ℕ → Type 0
HasTabAt xs k = (slice_index xs k == 9) ≡ true

-- Whether there is no tab from one place up to another.
abbrev pub HasNoTabIn : List ℕ → ℕ → ℕ → Type 0
HasNoTabIn xs from to = (k : ℕ) → from ≤ k → k < to → (slice_index xs k == 9) ≡ false

-- Whether a mask marks the tabs from one place up to another. Bit `k` is set exactly if there is a tab at the place
-- `from + k`.
pub record MarksTabs (xs : List ℕ) (from to m : ℕ) : Type 0 where
  pub each : (k : ℕ) → from + k < to → HasTabAt xs (from + k) → bit_at m k ≡ 1
  pub only : (k : ℕ) → bit_at m k ≡ 1 → (from + k < to) × HasTabAt xs (from + k)

-- The end of a block of 64 bytes from a place on.
abbrev pub block_end : List ℕ → ℕ → ℕ
block_end xs from = min (length xs) (from + 64)

-- The bytes before the first tab are the first field. The bytes after it are the other fields.
ends_before : (xs : List ℕ) (i : ℕ) → i < length xs → HasTabAt xs i → HasNoTabIn xs 0 i
    → slice_split (λ b. b == 9) xs ≡ take i xs ∷ slice_split (λ b. b == 9) (drop (suc i) xs)
ends_before [] i l t n = absurd (omega arith)
ends_before (x ∷ xs) zero l t n = slice_split-cons_yes (λ b. b == 9) x xs t
ends_before (x ∷ xs) (suc i) l t n =
    slice_split-cons_no (λ b. b == 9) x xs (n 0 (omega arith) (omega arith))
    ∙ ap (onto_first x) (ends_before xs i (omega arith) t (λ k low high. n (suc k) (omega arith) (omega arith)))

-- Bytes without a tab are one field.
only_field : (xs : List ℕ) → HasNoTabIn xs 0 (length xs) → slice_split (λ b. b == 9) xs ≡ xs ∷ []
only_field [] n = refl
only_field (x ∷ xs) n = slice_split-cons_no (λ b. b == 9) x xs (n 0 (omega arith) (omega arith))
    ∙ ap (onto_first x) (only_field xs (λ k low high. n (suc k) (omega arith) (omega arith)))

later : (xs : List ℕ) (from to n : ℕ) → n + from ≤ to → HasNoTabIn xs from to → HasNoTabIn (drop from xs) 0 n
later xs from to n l none k low high =
    ap (λ b. b == 9) (get_or-drop from xs k 0) ∙ none (from + k) (omega arith) (omega arith)

-- The bytes from a place up to the next tab are a field. The bytes after the tab are the other fields.
pub next_field : (xs : List ℕ) (from tab : ℕ) → from ≤ tab → tab < length xs → HasTabAt xs tab → HasNoTabIn xs from tab
    → slice_split (λ b. b == 9) (drop from xs)
    ≡ take (tab - from) (drop from xs) ∷ slice_split (λ b. b == 9) (drop (tab + 1) xs)
next_field xs from tab low high t none =
    let back : from + (tab - from) ≡ tab = omega arith in
    let next : from + suc (tab - from) ≡ tab + 1 = omega arith in
    let there : HasTabAt (drop from xs) (tab - from) =
    ap (λ b. b == 9) (get_or-drop from xs (tab - from) 0) ∙ subst (HasTabAt xs) (sym back) t in
    ends_before (drop from xs) (tab - from) (omega (arith, length-drop from xs)) there
    (later xs from tab _ (omega arith) none)
    ∙ ap (λ ys. take (tab - from) (drop from xs) ∷ slice_split (λ b. b == 9) ys)
    (drop-drop (suc (tab - from)) from xs ∙ ap (λ k. drop k xs) next)

-- The bytes from a place on are the last field, if there is no tab among them.
pub last_field : (xs : List ℕ) (from : ℕ) → from ≤ length xs → HasNoTabIn xs from (length xs)
    → slice_split (λ b. b == 9) (drop from xs) ≡ drop from xs ∷ []
last_field xs from l none =
    only_field (drop from xs) (later xs from (length xs) _ (omega (arith, length-drop from xs)) none)

-- Whether a mask marks the tabs from the place `start` up to `to`. Bit `k` belongs to the place `from + k`.
pub record MarksTabsFrom (xs : List ℕ) (start from to m : ℕ) : Type 0 where
  pub each : (k : ℕ) → start ≤ k → k < to → HasTabAt xs k → (from ≤ k) × (bit_at m (k - from) ≡ 1)
  pub only : (k : ℕ) → bit_at m k ≡ 1 → (start ≤ from + k) × (from + k < to) × HasTabAt xs (from + k)
