-- Lists of keys in ascending order.
use Rattle.std.specs.Prelude.{◌≡◌, ℕ, ◌<◌, Bool, true, List, length, slice_get, slice_index, Some}

-- Holds if each key of the list precedes every later one.
abbrev pub IsAscending : {K : Type 0} → (K → K → Bool) → List K → Type 0
IsAscending {K} precedes row = (i j : ℕ) (x y : K) → i < j → slice_get row i ≡ Some x → slice_get row j ≡ Some y
    → precedes x y ≡ true

-- Holds if the keys at the positions that `numbers` lists ascend. Example: the keys c, a, b ascend at 1, 2, 0.
abbrev pub IsAscendingAt : {K : Type 0} → (K → K → Bool) → List K → List ℕ → Type 0
IsAscendingAt {K} precedes keys numbers = (i j : ℕ) (x y : K) → i < j → j < length numbers
    → slice_get keys (slice_index numbers i) ≡ Some x → slice_get keys (slice_index numbers j) ≡ Some y
    → precedes x y ≡ true

-- Holds if keys that equal each other precede the same keys, and are preceded by the same keys.
abbrev pub RespectsEq : {K : Type 0} → (K → K → Bool) → (K → K → Bool) → Type 0
RespectsEq {K} eq precedes = (x y u v : K) → eq x y ≡ true → eq u v ≡ true → precedes x u ≡ precedes y v
