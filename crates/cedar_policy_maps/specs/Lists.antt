-- The lists that the iterators of a policy set return.
use Rattle.std.specs.Prelude.{ℕ, List, [], ◌∷◌, Bool, true, false, not, is_some, map}
use Rattle.std.specs.List.{filter}
use Rattle.cedar_ids.specs.Texts.{same_text}
use Rattle.cedar_terms.specs.declared.slot.SlotId.{SlotId}
use Rattle.cedar_body.specs.Bodies.{BodyParts, body_slots}
use Rattle.cedar_policy.specs.Policies.{PolicyParts, policy_id}

-- Whether a list of slots is empty.
abbrev pub is_slotless : List SlotId → Bool
is_slotless [] = true
is_slotless (s ∷ ss) = false

-- The bodies that have slots, in order.
abbrev pub slotted_in : List BodyParts → List BodyParts
slotted_in ts = filter (λ t. not (is_slotless (body_slots t))) ts

-- The static policies, in order.
abbrev pub statics_in : List PolicyParts → List PolicyParts
statics_in ps = filter (λ p. not (is_some p.link)) ps

-- Whether a policy uses the body with this id: a link of the template, or the static policy itself.
abbrev pub is_on : List ℕ → PolicyParts → Bool
is_on i p = same_text i p.template.id

-- The ids of the policies that use the body with this id, in order.
abbrev pub ids_in : List ℕ → List PolicyParts → List (List ℕ)
ids_in i ps = map policy_id (filter (is_on i) ps)
