-- Laws of loops over lists: adding policies, and validating bodies.
use Rattle.std.specs.Prelude.{◌≡◌, List, ◌∷◌, ◌++◌, Option, Some, None, Result, Ok, Err, All}
use Rattle.std.proofs.Common.{sym, ap}
use Rattle.cedar_body.specs.Bodies.{BodyParts}
use Rattle.cedar_policy.specs.Policies.{PolicyParts}
use Rattle.cedar_policy_set_errors.specs.declared.err.PolicySetValidationError.{PolicySetValidationError}
use Rattle.cedar_policy_set_errors.specs.declared.err.PolicySetValidationError.TheVariants.{InvalidTemplate}
use Rattle.cedar_policy_set_errors.specs.declared.err.PolicySetValidationError.TheVariants.{LinkToSlotlessTemplate}
use Rattle.cedar_policy_set_errors.specs.declared.err.PolicySetValidationError.TheVariants.{Memory}
use Rattle.cedar_policy_maps.specs.PolicySets.{SetParts}
use Rattle.cedar_policy_set.specs.Refusals.{IsRefusal}
use Rattle.cedar_policy_set.specs.Steps.{Refusal, add_step, add_then}
use Rattle.cedar_policy_set.specs.Validity.{IsValidBody}
use Rattle.cedar_policy_set.specs.laws.BodyFaults.{IsBodyFault, IsFirstFault}

refused_at : (r : Refusal) (s : Result SetParts Refusal) (ps : List PolicyParts) → s ≡ Err r → add_then s ps ≡ Err r
refused_at r s ps e = ap (λ t. add_then t ps) e

-- If adding the first policy fails, adding the list fails for the same reason.
pub refused_then : (o : Option Refusal) (b : SetParts) (p : PolicyParts) (ps : List PolicyParts)
    → IsRefusal o (add_step b p) → IsRefusal o (add_then (Ok b) (p ∷ ps))
refused_then None b p ps h = tt
refused_then (Some r) b p ps h = refused_at r (add_step b p) ps h

-- If all earlier bodies are valid, a faulty body is the first invalid body of the list.
pub first_fault : (e : PolicySetValidationError) (ts : List BodyParts) (t : BodyParts) (us all : List BodyParts)
    → ts ++ t ∷ us ≡ all → All IsValidBody ts → IsBodyFault e t → IsFirstFault e all
first_fault (LinkToSlotlessTemplate l i) ts t us all p a f = absurd f
first_fault (InvalidTemplate i d) ts t us all p a f = (ts, t, us, sym p, a, f.0, f.1)
first_fault Memory ts t us all p a f = tt
