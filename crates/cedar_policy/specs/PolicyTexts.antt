-- The printed texts of policies.
use Rattle.std.specs.Prelude.{ℕ, List, ◌++◌, ◌&&◌, Option, Some, None, if◌then◌else◌, codes}
use Rattle.cedar_ids.specs.Escape.{escaped, is_ascii}
use Rattle.cedar_body.specs.BodyTexts.{body_output}
use Rattle.cedar_binding.specs.BindingTexts.{env_text, is_ascii_env}
use Rattle.cedar_policy.specs.Policies.{PolicyParts}

-- The text of a link. For example, `Template Instance of t, slots: [?principal -> User::"alice"]`.
abbrev pub link_text : PolicyParts → List ℕ
link_text p =
    codes "Template Instance of " ++ (escaped p.template.id ++ (codes ", slots: [" ++ (env_text p.env ++ codes "]")))

-- The specified output of printing a policy with this optional link id. A static policy is printed as its template. The
-- text of a link is specified if its template's id and its eids are ASCII.
abbrev pub output_by_link : Option (List ℕ) → PolicyParts → Option (List ℕ)
output_by_link None p = body_output p.template
output_by_link (Some l) p = if is_ascii p.template.id && is_ascii_env p.env then Some (link_text p) else None

-- The specified output of printing a policy.
abbrev pub policy_output : PolicyParts → Option (List ℕ)
policy_output p = output_by_link p.link p
