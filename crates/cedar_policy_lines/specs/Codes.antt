-- A code for a pair of policy sets, which determines the pair.
use Rattle.std.specs.Prelude.{refl}
use Rattle.std.specs.Coded.{Coded, code_by, coded×}
use Rattle.cedar_policy_maps.specs.PolicySets.{SetParts}
use Rattle.cedar_policy_maps.specs.Codes.{set_code}
use Rattle.cedar_policy_lines.specs.TwoSets.{TwoSets}

-- The code of two policy sets.
abbrev pub sets_code : Coded TwoSets
sets_code = code_by (SetParts × SetParts) (coded× set_code set_code) (λ b. (b.current, b.aside))
    (λ r. record { current = r.0; aside = r.1 }) (λ _. refl)
