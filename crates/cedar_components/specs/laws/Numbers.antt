-- Lists of numbers.
use Rattle.std.specs.Prelude.{◌≡◌, ℕ, ◌<◌, ◌≤◌, ◌⊎◌, List, [], ◌++◌, length, slice_index}
use Rattle.std.specs.List.{range_with_len}
use Rattle.std.specs.List.Sorted.{IsPermutation}

-- Whether `x` is in the list.
abbrev pub IsIn : List ℕ → ℕ → Type 0
IsIn xs x = (i : ℕ) × (i < length xs) × (slice_index xs i ≡ x)

-- Whether `x` is in the list at index `i` or later.
abbrev pub IsFrom : List ℕ → ℕ → ℕ → Type 0
IsFrom xs i x = (k : ℕ) × (i ≤ k) × (k < length xs) × (slice_index xs k ≡ x)

-- Whether each number of the list is below `n`.
abbrev pub AllBelow : ℕ → List ℕ → Type 0
AllBelow n xs = (k : ℕ) → k < length xs → slice_index xs k < n

-- Whether the list contains each number below `n` once.
abbrev pub IsOrder : ℕ → List ℕ → Type 0
IsOrder n = IsPermutation (range_with_len 0 n)

-- Whether the new list contains the old numbers and those that pass `X`, and no others.
pub record Adds (old new : List ℕ) (X : ℕ → Type 0) : Type 0 where
  pub more : (y : ℕ) → IsIn old y → IsIn new y
  pub only : (y : ℕ) → IsIn new y → IsIn old y ⊎ X y
  pub has : (y : ℕ) → X y → IsIn new y

-- Whether a list of the numbers that pass `X` is appended.
abbrev pub AppendsThose : (ℕ → Type 0) → List ℕ → List ℕ → Type 0
AppendsThose X old new = (list : List ℕ) × (new ≡ old ++ list) × Adds [] list X
