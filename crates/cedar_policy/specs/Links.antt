-- The results of linking.
use Rattle.std.specs.Prelude.{◌≡◌, ℕ, List, [], Some, Result, Ok, Err}
use Rattle.cedar_body.specs.Bodies.{BodyParts, body_slots}
use Rattle.cedar_binding.specs.Bindings.{EnvParts, no_env, FitsSlots}
use Rattle.cedar_binding.specs.Checks.{IsUnfit}
use Rattle.cedar_binding.specs.declared.err.LinkingError.{LinkingError}
use Rattle.cedar_policy.specs.Policies.{PolicyParts, static_policy}

-- Whether a result of linking is right. If the bindings fit the template's slots, `Ok` contains the policy of this
-- template, this id and these bindings. An error explains why they do not fit, or is `Memory`.
abbrev pub Links : Result PolicyParts LinkingError → BodyParts → List ℕ → EnvParts → Type 0
Links (Ok p) t i e = FitsSlots (body_slots t) e × (p ≡ record { template = t; link = Some i; env = e })
Links (Err r) t i e = IsUnfit r (body_slots t) e

-- Whether a result of creating a static policy is right. If the template has no slots, `Ok` contains its static policy.
-- An error explains why empty bindings do not fit, or is `Memory`.
abbrev pub CreatesStaticPolicy : Result PolicyParts LinkingError → BodyParts → Type 0
CreatesStaticPolicy (Ok p) t = (body_slots t ≡ []) × (p ≡ static_policy t)
CreatesStaticPolicy (Err r) t = IsUnfit r (body_slots t) no_env
