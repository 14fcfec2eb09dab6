-- New ids for a merge: the ids `policy0`, `policy1` and so on that neither set uses. An id is free if `bound` is false
-- for it.
use Rattle.std.specs.Prelude.{◌≡◌, ℕ, ◌+◌, List, [], ◌∷◌, ◌++◌, Bool, false, ◌||◌, if◌then◌else◌, codes, suc, zero}
use Rattle.std.specs.Fmt.{digits_onto}
use Rattle.cedar_policy_maps.specs.PolicySets.{SetParts, is_bound}

-- The decimal digits of a number `n`. It has at most `n + 1` digits, which is the bound of the recursion.
unfoldable pub numeral : ℕ → List ℕ
numeral n = digits_onto (suc n) 10 false n []

-- The id of a number. Example: the id of 12 is `policy12`.
abbrev pub numbered : ℕ → List ℕ
numbered n = codes "policy" ++ numeral n

-- Whether one of two policy sets uses an id.
abbrev pub is_bound_in_either : SetParts → SetParts → List ℕ → Bool
is_bound_in_either here other i = is_bound here i || is_bound other i

-- The count of the numbers below `n` whose ids are free.
unfoldable pub free_below : (List ℕ → Bool) → ℕ → ℕ
free_below bound zero = 0
free_below bound (suc n) = free_below bound n + (if bound (numbered n) then 0 else 1)

-- Whether the id of `n` is free, and `k` smaller numbers have free ids. So it is the free id at position `k`, counted
-- from 0.
abbrev pub IsFree : (List ℕ → Bool) → ℕ → ℕ → Type 0
IsFree bound k n = (bound (numbered n) ≡ false) × (free_below bound n ≡ k)

-- Whether the ids of a list are consecutive free ids, from position `k` on.
abbrev pub AreFree : (List ℕ → Bool) → ℕ → List (List ℕ) → Type 0
AreFree bound k [] = Unit {0}
AreFree bound k (i ∷ is) = ((n : ℕ) × (i ≡ numbered n) × IsFree bound k n) × AreFree bound (k + 1) is
