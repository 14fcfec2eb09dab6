-- The equality of policies.
use Rattle.std.specs.Prelude.{◌&&◌, Bool}
use Rattle.std.specs.Option.{option_eq}
use Rattle.cedar_ids.specs.Texts.{same_text}
use Rattle.cedar_body.specs.BodyEquality.{same_body}
use Rattle.cedar_binding.specs.EnvEquality.{same_env}
use Rattle.cedar_policy.specs.Policies.{PolicyParts}

-- Whether two policies have equal templates, equal optional link ids and equal bindings.
abbrev pub same_policy : PolicyParts → PolicyParts → Bool
same_policy p q =
    same_body p.template q.template && (option_eq same_text p.link q.link && same_env p.env q.env)
