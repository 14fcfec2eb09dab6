-- The text of a policy set.
use Rattle.std.specs.Prelude.{ℕ, List, [], ◌∷◌, ◌++◌, Bool, ◌&&◌, Option, Some, None, if◌then◌else◌, codes, is_some}
use Rattle.std.specs.List.{list_all, flat_map}
use Rattle.std.specs.Option.{unwrap_or}
use Rattle.cedar_body.specs.Bodies.{BodyParts}
use Rattle.cedar_body.specs.BodyTexts.{body_output}
use Rattle.cedar_policy.specs.Policies.{PolicyParts}
use Rattle.cedar_policy.specs.PolicyTexts.{policy_output}
use Rattle.cedar_policy_maps.specs.PolicySets.{SetParts}

-- Whether the text of a body is known, that is, whether `body_output` defines it.
abbrev pub is_known_body : BodyParts → Bool
is_known_body t = is_some (body_output t)

-- The text of a body, or the empty text if it is not known.
abbrev pub known_body : BodyParts → List ℕ
known_body t = unwrap_or (body_output t) []

-- Whether the text of a policy is known, that is, whether `policy_output` defines it.
abbrev pub is_known_policy : PolicyParts → Bool
is_known_policy p = is_some (policy_output p)

-- The text of a policy, or the empty text if it is not known.
abbrev pub known_policy : PolicyParts → List ℕ
known_policy p = unwrap_or (policy_output p) []

-- A line feed and the text of a body.
abbrev pub body_line : BodyParts → List ℕ
body_line t = codes "\n" ++ known_body t

-- A line feed and the text of a policy.
abbrev pub policy_line : PolicyParts → List ℕ
policy_line p = codes "\n" ++ known_policy p

-- The texts of bodies, separated by line feeds.
abbrev pub bodies_text : List BodyParts → List ℕ
bodies_text [] = []
bodies_text (t ∷ ts) = known_body t ++ flat_map body_line ts

-- The texts of policies, separated by line feeds.
abbrev pub policies_text : List PolicyParts → List ℕ
policies_text [] = []
policies_text (p ∷ ps) = known_policy p ++ flat_map policy_line ps

-- The texts of all bodies and of all policies, each list after its title.
abbrev pub titled_text : List BodyParts → List PolicyParts → List ℕ
titled_text ts ps =
    codes "Templates:\n" ++ (bodies_text ts ++ (codes ", Template Linked Policies:\n" ++ policies_text ps))

-- The text of a set with these bodies and policies. An empty set has the text `<empty policyset>`.
abbrev pub orders_text : List BodyParts → List PolicyParts → List ℕ
orders_text [] [] = codes "<empty policyset>"
orders_text ts ps = titled_text ts ps

-- The text of a set, if the texts of all its bodies and policies are known.
abbrev pub set_output : SetParts → Option (List ℕ)
set_output b =
    if list_all is_known_body b.bodies && list_all is_known_policy b.policies then Some
    (orders_text b.bodies b.policies) else None
