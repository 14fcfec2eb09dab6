-- A policy set as callers see it: the list of its bodies and the list of its policies.
use Rattle.std.specs.Prelude.{◌≡◌, ℕ, ◌-◌, length, slice_get, List, [], ◌∷◌, ◌++◌, Bool, false, not, ◌||◌, ◌&&◌, Option}
use Rattle.std.specs.Prelude.{Some, None, is_some}
use Rattle.std.specs.List.{find, filter, list_any}
use Rattle.cedar_ids.specs.Texts.{same_text}
use Rattle.cedar_body.specs.Bodies.{BodyParts, body_slots}
use Rattle.cedar_binding.specs.Bindings.{EnvParts, FitsSlots}
use Rattle.cedar_policy.specs.Policies.{PolicyParts, policy_id, static_policy}

-- The parts of a policy set: the bodies of static policies and templates, and the static policies and links, each in
-- insertion order.
pub record SetParts : Type 0 where
  pub bodies : List BodyParts
  pub policies : List PolicyParts

-- The empty policy set.
abbrev pub empty_set : SetParts
empty_set = record { bodies = []; policies = [] }

-- Whether a body has this id.
abbrev pub is_body_at : List ℕ → BodyParts → Bool
is_body_at i b = same_text i b.id

-- Whether a policy has this id.
abbrev pub is_policy_at : List ℕ → PolicyParts → Bool
is_policy_at i p = same_text i (policy_id p)

-- Whether a policy is a link of the template with this id.
abbrev pub links_to : List ℕ → PolicyParts → Bool
links_to i p = is_some p.link && same_text i p.template.id

-- Whether a set has a link of the template with this id.
abbrev pub has_links : SetParts → List ℕ → Bool
has_links b i = list_any (links_to i) b.policies

-- The binding of an id: a static policy, a template, or a link with its id, its template and the uids of its slots.
pub data Binding : Type 0 where
  Static : BodyParts → Binding
  Template : BodyParts → Binding
  Link : List ℕ → BodyParts → EnvParts → Binding

-- The binding of a policy with this optional link id.
abbrev pub binding_by : Option (List ℕ) → PolicyParts → Binding
binding_by None p = Static p.template
binding_by (Some l) p = Link l p.template p.env

-- The binding of a policy: a static policy or a link.
abbrev pub policy_binding : PolicyParts → Binding
policy_binding p = binding_by p.link p

-- The binding of an id, from the policy and the body with the id. A body without a policy of the same id is a template.
abbrev pub binding_from : Option PolicyParts → Option BodyParts → Option Binding
binding_from (Some p) t = Some (policy_binding p)
binding_from None (Some t) = Some (Template t)
binding_from None None = None

-- The binding of an id in a set, if the id is in use.
abbrev pub bound_at : SetParts → List ℕ → Option Binding
bound_at b i = binding_from (find (is_policy_at i) b.policies) (find (is_body_at i) b.bodies)

-- The template of a binding, if the binding is a template.
abbrev pub template_bound : Option Binding → Option BodyParts
template_bound (Some (Template t)) = Some t
template_bound x = None

-- Whether an id is in use in a set, by a policy or by a body.
abbrev pub is_bound : SetParts → List ℕ → Bool
is_bound b i = list_any (is_policy_at i) b.policies || list_any (is_body_at i) b.bodies

-- The set with a template appended to its bodies.
abbrev pub with_template : SetParts → BodyParts → SetParts
with_template b t = record { bodies = b.bodies ++ t ∷ []; policies = b.policies }

-- The set with a policy appended to its policies.
abbrev pub with_policy : SetParts → PolicyParts → SetParts
with_policy b p = record { bodies = b.bodies; policies = b.policies ++ p ∷ [] }

-- The set with a body and a policy appended.
abbrev pub with_body_and_policy : SetParts → BodyParts → PolicyParts → SetParts
with_body_and_policy b t p = record { bodies = b.bodies ++ t ∷ []; policies = b.policies ++ p ∷ [] }

-- The set without the body and the policy with this id. The order of the others does not change.
abbrev pub without_id : SetParts → List ℕ → SetParts
without_id b i = record {
  bodies = filter (λ t. not (is_body_at i t)) b.bodies;
  policies =
      filter (λ p. not (is_policy_at i p)) b.policies;
}

-- The last policy of a set, if there is one.
abbrev pub last_policy : SetParts → Option PolicyParts
last_policy b = slice_get b.policies (length b.policies - 1)

-- ---- The invariant of policy sets

-- Whether no two elements of a list have the same id.
abbrev pub AreOnce : {A : Type 0} → (A → List ℕ) → List A → Type 0
AreOnce id [] = Unit {0}
AreOnce id (x ∷ xs) = (list_any (λ y. same_text (id x) (id y)) xs ≡ false) × AreOnce id xs

-- Whether a policy with this optional link id fits a set. A static policy has no slots, and its body is in the set
-- under its id. A link has an id that no body has. Its template is in the set and is not the body of a static policy,
-- and its bindings fit the template's slots.
abbrev pub IsHeldBy : Option (List ℕ) → SetParts → PolicyParts → Type 0
IsHeldBy None b p =
    (p ≡ static_policy p.template) × (body_slots p.template ≡ [])
    × (find (is_body_at p.template.id) b.bodies ≡ Some p.template)
IsHeldBy (Some l) b p =
    (list_any (is_body_at l) b.bodies ≡ false)
    × (find (is_body_at p.template.id) b.bodies ≡ Some p.template)
    × (list_any (is_policy_at p.template.id) b.policies ≡ false)
    × FitsSlots (body_slots p.template) p.env

-- Whether a policy fits a set, in the sense of `IsHeldBy`.
abbrev pub IsHeld : SetParts → PolicyParts → Type 0
IsHeld b p = IsHeldBy p.link b p

-- Whether each of some policies fits a set.
abbrev pub AreHeld : SetParts → List PolicyParts → Type 0
AreHeld b [] = Unit {0}
AreHeld b (p ∷ ps) = IsHeld b p × AreHeld b ps

-- The invariant of policy sets. The bodies have different ids, the policies have different ids, and each policy fits
-- the set.
pub record IsPolicySet (b : SetParts) : Type 0 where
  pub bodies_once : AreOnce (λ (t : BodyParts). t.id) b.bodies
  pub policies_once : AreOnce policy_id b.policies
  pub held : AreHeld b b.policies

-- Whether a policy is not a link with the id of its template.
abbrev pub HasDistinctId : PolicyParts → Type 0
HasDistinctId p = p.link ≡ Some p.template.id → ⊥
