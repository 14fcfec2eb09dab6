-- The reasons why a lookup in a policy set has no result.
use Rattle.std.specs.Prelude.{◌≡◌, ◌⊎◌, ℕ, ◌≤◌, List, Option, None}
use Rattle.cedar_policy_maps.specs.PolicySets.{SetParts}
use Rattle.cedar_c_lists.specs.declared.reason.Reason.{Reason}
use Rattle.cedar_c_lists.specs.declared.reason.Reason.TheVariants as reasons
use Rattle.cedar_c_sets.specs.Reads.{bound_body}

-- Holds if w is an allocation failure, or nothing was found.
abbrev pub IsUnfound : {X : Type 0} → Option X → Reason → Type 0
IsUnfound o w = (w ≡ reasons.NoMemory) ⊎ ((w ≡ reasons.NoBody) × (o ≡ None))

-- Holds if w is the reason why there is no constraint: an allocation failure, an invalid number, or an id that is not
-- in use.
abbrev pub IsScopeless : ℕ → SetParts → List ℕ → Reason → Type 0
IsScopeless which b id w =
    (w ≡ reasons.NoMemory)
    ⊎ (((w ≡ reasons.BadArgument) × (3 ≤ which)) ⊎ ((w ≡ reasons.NoBody) × (bound_body b id ≡ None)))
