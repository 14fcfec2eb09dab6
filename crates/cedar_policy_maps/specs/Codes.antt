-- The code by which a proof distinguishes policy sets.
use Rattle.std.specs.Prelude.{List, refl}
use Rattle.std.specs.Coded.{Coded, code_by, coded×, coded_list}
use Rattle.cedar_body.specs.Bodies.{BodyParts}
use Rattle.cedar_body.specs.Codes.{body_code}
use Rattle.cedar_policy.specs.Policies.{PolicyParts}
use Rattle.cedar_policy.specs.Codes.{policy_code}
use Rattle.cedar_policy_maps.specs.PolicySets.{SetParts}

-- The code of a policy set: its bodies and its policies.
abbrev pub set_code : Coded SetParts
set_code =
    code_by (List BodyParts × List PolicyParts) (coded× (coded_list body_code) (coded_list policy_code))
    (λ b. (b.bodies, b.policies)) (λ r. record { bodies = r.0; policies = r.1 }) (λ _. refl)
