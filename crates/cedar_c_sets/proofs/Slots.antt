-- The step by which a body is added as a static policy.
use Rattle.std.proofs.Common.{◌≡◌, List, [], ◌∷◌, ap, refl, sym}
use Rattle.std.specs.Prelude.{Err}
use Rattle.cedar_terms.specs.declared.slot.SlotId.{SlotId}
use Rattle.cedar_body.specs.Bodies.{BodyParts, body_slots}
use Rattle.cedar_policy_maps.specs.PolicySets.{SetParts}
use Rattle.cedar_policy_set.specs.Steps.{add_static_step, not_static}
use Rattle.cedar_c_sets.specs.BodyCalls.{static_step, static_step_with}

slotted_with : (ss : List SlotId) (b : SetParts) (t : BodyParts) → (ss ≡ [] → ⊥)
    → static_step_with ss b t ≡ Err (not_static t.id)
slotted_with [] b t n = absurd (n refl)
slotted_with (s ∷ ss) b t n = refl

-- A body with slots is not a static policy.
pub slotted : (b : SetParts) (t : BodyParts) → (body_slots t ≡ [] → ⊥) → static_step b t ≡ Err (not_static t.id)
slotted b t n = slotted_with (body_slots t) b t n

-- A body without slots is added as a static policy.
pub slotless : (b : SetParts) (t : BodyParts) → body_slots t ≡ [] → add_static_step b t ≡ static_step b t
slotless b t e = sym (ap (λ (ss : List SlotId). static_step_with ss b t) e)
