-- The constraints of principal, action and resource of the policy or template with an id, and their encoding.
use Rattle.std.specs.Prelude.{◌≡◌, ◌⊎◌, ℕ, ◌≤◌, List, Option, Some, None, Result, Ok, Err}
use Rattle.std.specs.Str.{IsUtf8}
use Rattle.cedar_scope.specs.Scope.{Constraint}
use Rattle.cedar_action.specs.Rules.{ActionRule}
use Rattle.cedar_body.specs.Bodies.{BodyParts}
use Rattle.cedar_policy.specs.Policies.{PolicyParts, principal_of, action_of, resource_of}
use Rattle.cedar_policy_maps.specs.PolicySets.{SetParts}
use Rattle.cedar_c_lists.specs.declared.reason.Reason.{Reason}
use Rattle.cedar_c_lists.specs.declared.reason.Reason.TheVariants as reasons
use Rattle.cedar_c_bodies.specs.Encoded.{EncodesConstraint, EncodesRule}
use Rattle.cedar_c_sets.specs.Reads.{IsAnswered, IsUntoldAt, body_at, bound_body, policy_at}
use Rattle.cedar_c_sets.specs.declared.set_state.SetState.{SetState}

-- A value of the policy or, if there is none, of the body.
abbrev pub of_found : {X : Type 0} → (PolicyParts → X) → (BodyParts → X) → Option PolicyParts → Option BodyParts
    → Option X
of_found p t (Some x) y = Some (p x)
of_found p t None (Some y) = Some (t y)
of_found p t None None = None

-- A value of the policy with an id or, if there is none, of the template with the id.
abbrev pub of_bound : {X : Type 0} → (PolicyParts → X) → (BodyParts → X) → SetParts → List ℕ → Option X
of_bound p t b id = of_found p t (policy_at b id) (body_at b id)

-- The principal constraint of the policy or template with an id. The slot of a link is replaced by its uid; the slot of
-- a template is kept.
abbrev pub principal_at : SetParts → List ℕ → Option Constraint
principal_at b id = of_bound principal_of (λ t. t.principal) b id

-- The action constraint of the policy or template with an id.
abbrev pub action_at : SetParts → List ℕ → Option ActionRule
action_at b id = of_bound action_of (λ t. t.action) b id

-- The resource constraint of the policy or template with an id.
abbrev pub resource_at : SetParts → List ℕ → Option Constraint
resource_at b id = of_bound resource_of (λ t. t.resource) b id

-- Holds if a constraint was found and has this number and these texts.
abbrev pub EncodesFound : {X : Type 0} → (X → ℕ → List (List ℕ) → Type 0) → Option X → ℕ → List (List ℕ) → Type 0
EncodesFound WritesBool None n texts = ⊥
EncodesFound WritesBool (Some x) n texts = WritesBool x n texts

-- The encoding of the constraint with a number: 0 for the principal, 1 for the action and 2 for the resource.
abbrev pub EncodesScope : ℕ → SetParts → List ℕ → ℕ → List (List ℕ) → Type 0
EncodesScope which b id n texts =
    ((which ≡ 0) × EncodesFound EncodesConstraint (principal_at b id) n texts)
    ⊎ (((which ≡ 1) × EncodesFound EncodesRule (action_at b id) n texts)
    ⊎ ((which ≡ 2) × EncodesFound EncodesConstraint (resource_at b id) n texts))

-- Holds for the effect of reading one of the three constraints. Its texts are stored in `answer`. After an error
-- nothing changes.
abbrev pub AnswersScope : {B H : Type 0} → ℕ → List ℕ → Result ℕ Reason → SetState B H → SetState B H → Type 0
AnswersScope which id (Ok n) i j = IsUtf8 id × IsAnswered (EncodesScope which i.set id n) i j
AnswersScope which id (Err w) i j =
    (j ≡ i) × (((w ≡ reasons.BadArgument) × (3 ≤ which)) ⊎ IsUntoldAt (bound_body i.set id) id w)
