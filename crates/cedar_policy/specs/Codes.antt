-- The code by which a proof distinguishes policies.
use Rattle.std.specs.Prelude.{ℕ, List, Option, refl}
use Rattle.std.specs.Coded.{Coded, code_by, coded×, coded_option}
use Rattle.cedar_ids.specs.Codes.{text_code}
use Rattle.cedar_body.specs.Bodies.{BodyParts}
use Rattle.cedar_body.specs.Codes.{body_code}
use Rattle.cedar_binding.specs.Bindings.{EnvParts}
use Rattle.cedar_binding.specs.Codes.{env_code}
use Rattle.cedar_policy.specs.Policies.{PolicyParts}

-- The code of a policy: its template, its link and its bindings.
abbrev pub policy_code : Coded PolicyParts
policy_code =
    code_by (BodyParts × (Option (List ℕ) × EnvParts)) (coded× body_code (coded× (coded_option text_code) env_code))
    (λ p. (p.template, (p.link, p.env))) (λ r. record { template = r.0; link = r.1.0; env = r.1.1 }) (λ _. refl)
