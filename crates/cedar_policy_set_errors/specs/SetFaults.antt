-- The errors of validating a policy set as callers see them. Locations are not part of them.
use Rattle.std.specs.Prelude.{ℕ, List}
use Rattle.cedar_policy.specs.Faults.{Fault, fault_of}
use Rattle.cedar_policy_set_errors.specs.declared.err.PolicySetValidationError.{PolicySetValidationError}
use Rattle.cedar_policy_set_errors.specs.declared.err.PolicySetValidationError.TheVariants.{InvalidTemplate}
use Rattle.cedar_policy_set_errors.specs.declared.err.PolicySetValidationError.TheVariants.{LinkToSlotlessTemplate}
use Rattle.cedar_policy_set_errors.specs.declared.err.PolicySetValidationError.TheVariants.{Memory}

-- An error of a set: an invalid body with its id and its error, a link to a template without slots, or an allocation
-- failure.
pub data SetFault : Type 0 where
  invalid_body : List ℕ → Fault → SetFault
  slotless : List ℕ → List ℕ → SetFault
  no_memory : SetFault

-- The error as callers see it.
abbrev pub set_fault_of : PolicySetValidationError → SetFault
set_fault_of (InvalidTemplate i e) = invalid_body i (fault_of e)
set_fault_of (LinkToSlotlessTemplate l t) = slotless l t
set_fault_of Memory = no_memory
