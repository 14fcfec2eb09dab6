-- Which templates a policy set contains, and which ids are in use.
use Rattle.std.specs.Prelude.{◌≡◌, ℕ, Bool, List, Option, Some, None, Result, Ok, Err, if◌then◌else◌}
use Rattle.cedar_body.specs.Bodies.{BodyParts}
use Rattle.cedar_body.specs.BodyEquality.{same_body}
use Rattle.cedar_policy_set_errors.specs.declared.err.PolicySetError.{PolicySetError}
use Rattle.cedar_policy.specs.Policies.{PolicyParts, policy_id}
use Rattle.cedar_policy_maps.specs.PolicySets.{SetParts, Binding, Static, Template, Link, bound_at, is_bound}
use Rattle.cedar_policy_maps.specs.PolicySets.{template_bound, with_policy}
use Rattle.cedar_policy_set.specs.Refusals.{IsRefusal, set_error_of}
use Rattle.cedar_policy_set.specs.Steps.{Refusal, occupied, id_conflict}

-- Whether the id belongs to a template, and `v` states whether that template is equal to `t`.
abbrev pub StandsThere : SetParts → List ℕ → Bool → BodyParts → Type 0
StandsThere b i v t = (u : BodyParts) × (bound_at b i ≡ Some (Template u)) × (v ≡ same_body u t)

-- Whether a set contains this template, under its id.
abbrev pub Stands : SetParts → BodyParts → Type 0
Stands b t = bound_at b t.id ≡ Some (Template t)

-- Whether a binding is not a template.
abbrev pub HasNoTemplate : Option Binding → Type 0
HasNoTemplate None = Unit {0}
HasNoTemplate (Some (Static t)) = Unit {0}
HasNoTemplate (Some (Template t)) = ⊥
HasNoTemplate (Some (Link l t e)) = Unit {0}

pub no_template_told : (x : Option Binding) → None ≡ template_bound x → HasNoTemplate x
no_template_told None e = tt
no_template_told (Some (Static t)) e = tt
no_template_told (Some (Template t)) e = absurd (cc)
no_template_told (Some (Link l t v)) e = tt

-- Whether an error reports that an id is in use. It then fits every step that fails for ids in use.
abbrev pub TellsBound : SetParts → List ℕ → PolicySetError → Type 0
TellsBound b i e =
    (free : Result SetParts Refusal) → IsRefusal (set_error_of e) (if is_bound b i then Err (occupied i) else free)

-- The step of appending a link whose template is in the set. The link's id has to be free.
abbrev pub link_put : SetParts → PolicyParts → Result SetParts Refusal
link_put b p = if is_bound b (policy_id p) then Err (id_conflict (policy_id p)) else Ok (with_policy b p)
