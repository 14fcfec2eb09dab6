-- The errors of the check of bodies.
use Rattle.std.specs.Prelude.{◌≡◌, List, ◌∷◌, ◌++◌, All}
use Rattle.cedar_body.specs.Bodies.{BodyParts}
use Rattle.cedar_policy_set_errors.specs.declared.err.PolicySetValidationError.{PolicySetValidationError}
use Rattle.cedar_policy_set_errors.specs.declared.err.PolicySetValidationError.TheVariants.{InvalidTemplate}
use Rattle.cedar_policy_set_errors.specs.declared.err.PolicySetValidationError.TheVariants.{LinkToSlotlessTemplate}
use Rattle.cedar_policy_set_errors.specs.declared.err.PolicySetValidationError.TheVariants.{Memory}
use Rattle.cedar_policy_set.specs.Validity.{IsValidBody, IsBodyRefusal}

-- Whether an error has the id of a body and its first fault.
abbrev pub IsBodyFault : PolicySetValidationError → BodyParts → Type 0
IsBodyFault (LinkToSlotlessTemplate l i) t = ⊥
IsBodyFault (InvalidTemplate i e) t = (i ≡ t.id) × IsBodyRefusal e t
IsBodyFault Memory t = Unit {0}

-- Whether an error has the id and the first fault of the first invalid body.
abbrev pub IsFirstFault : PolicySetValidationError → List BodyParts → Type 0
IsFirstFault (LinkToSlotlessTemplate l i) ts = ⊥
IsFirstFault (InvalidTemplate i e) ts =
    (before : List BodyParts) × (t : BodyParts) × (after : List BodyParts)
    × (ts ≡ before ++ t ∷ after) × All IsValidBody before × (i ≡ t.id) × IsBodyRefusal e t
IsFirstFault Memory ts = Unit {0}
