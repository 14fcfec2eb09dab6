-- The result of validating a policy set.
use Rattle.std.specs.Prelude.{◌≡◌, List, ◌∷◌, ◌++◌, Bool, ◌&&◌, Some, None, Result, Ok, Err, is_some, All}
use Rattle.std.specs.List.{find}
use Rattle.cedar_body.specs.Bodies.{BodyParts, body_slots}
use Rattle.cedar_policy.specs.Policies.{PolicyParts, policy_id}
use Rattle.cedar_policy.specs.Validation.{HasActions, IsTemplateFault, clause_fault}
use Rattle.cedar_policy.specs.declared.err.TemplateValidationError.{TemplateValidationError}
use Rattle.cedar_policy.specs.declared.err.TemplateValidationError.TheVariants as templates
use Rattle.cedar_policy_set_errors.specs.declared.err.PolicySetValidationError.{PolicySetValidationError}
use Rattle.cedar_policy_set_errors.specs.declared.err.PolicySetValidationError.TheVariants.{InvalidTemplate}
use Rattle.cedar_policy_set_errors.specs.declared.err.PolicySetValidationError.TheVariants.{LinkToSlotlessTemplate}
use Rattle.cedar_policy_set_errors.specs.declared.err.PolicySetValidationError.TheVariants.{Memory}
use Rattle.cedar_policy_maps.specs.PolicySets.{SetParts}
use Rattle.cedar_policy_maps.specs.Lists.{is_slotless}

-- Whether a policy is a link of a template without slots.
abbrev pub is_slotless_link : PolicyParts → Bool
is_slotless_link p = is_some p.link && is_slotless (body_slots p.template)

-- Whether a body is valid: its action constraint has only actions, and its clause has no fault. A parser produces only
-- valid bodies.
abbrev pub IsValidBody : BodyParts → Type 0
IsValidBody t = HasActions t.clause t.action × (clause_fault t.clause ≡ None)

-- Whether a body is invalid and this error is its first fault. An allocation failure is not a fault.
abbrev pub IsBodyRefusal : TemplateValidationError → BodyParts → Type 0
IsBodyRefusal templates.Memory t = ⊥
IsBodyRefusal e t = IsTemplateFault e t.clause t.action

-- Whether no link of a set has a template without slots.
abbrev pub HasSlottedLinks : SetParts → Type 0
HasSlottedLinks b = find is_slotless_link b.policies ≡ None

-- Whether an error is the first fault of a set. The links are checked before the bodies:
--
-- - `LinkToSlotlessTemplate`: the error has the ids of the first link of a template without slots and of its template.
-- - `InvalidTemplate`: no link has such a template. The error has the id and the fault of the first invalid body.
-- - `Memory`: an allocation failed, and nothing is known about the set.
abbrev pub IsSetFault : PolicySetValidationError → SetParts → Type 0
IsSetFault (LinkToSlotlessTemplate l t) b =
    (p : PolicyParts) × (find is_slotless_link b.policies ≡ Some p) × (l ≡ policy_id p) × (t ≡ p.template.id)
IsSetFault (InvalidTemplate i e) b =
    HasSlottedLinks b
    × (before : List BodyParts) × (t : BodyParts) × (after : List BodyParts)
    × (b.bodies ≡ before ++ t ∷ after) × All IsValidBody before × (i ≡ t.id) × IsBodyRefusal e t
IsSetFault Memory b = Unit {0}

-- Whether a result is a correct validation of a set: the set itself if it is valid, and otherwise its first fault.
abbrev pub ValidatesSet : Result SetParts PolicySetValidationError → SetParts → Type 0
ValidatesSet (Ok s) b = HasSlottedLinks b × All IsValidBody b.bodies × (s ≡ b)
ValidatesSet (Err e) b = IsSetFault e b
