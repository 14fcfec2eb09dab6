-- The places of numbers in an order.
use Rattle.std.specs.Prelude.{◌≡◌, ℕ, ◌-◌, ◌<◌, Bool, true, List, length, slice_get, slice_index, Some}

-- Holds if the place of the list's last number is below `limit`.
abbrev pub EndsBelow : ℕ → List ℕ → List ℕ → Type 0
EndsBelow limit places list = 0 < length list → slice_index places (slice_index list (length list - 1)) < limit

-- Holds if the places of the list's numbers ascend.
abbrev pub AscendByPlaces : List ℕ → List ℕ → Type 0
AscendByPlaces places list = (i j : ℕ) → i < j → j < length list
    → slice_index places (slice_index list i) < slice_index places (slice_index list j)

-- Holds if each key has a place, and the key with the lower of two places precedes the other key, if both places are
-- below `limit`.
pub record AreRanked {K : Type 0} (precedes : K → K → Bool) (keys : List K) (limit : ℕ) (places : List ℕ)
    : Type 0 where
  pub len : length places ≡ length keys
  pub ranked : (a b : ℕ) (x y : K) → slice_get keys a ≡ Some x → slice_get keys b ≡ Some y
      → slice_index places a < slice_index places b → slice_index places b < limit → precedes x y ≡ true
