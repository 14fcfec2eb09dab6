-- The errors of validating a template as callers see them. Locations are not part of them.
use Rattle.std.specs.Prelude.{List, map}
use Rattle.cedar_ids.specs.NonEmpties.{all_of}
use Rattle.cedar_ids.specs.Uid.{UidParts}
use Rattle.cedar_ids.specs.UidOf.{uid_parts}
use Rattle.cedar_terms.specs.declared.err.ExprValidationError.{ExprValidationError}
use Rattle.cedar_terms.specs.declared.slot.SlotId.{SlotId}
use Rattle.cedar_policy.specs.declared.err.TemplateValidationError.{TemplateValidationError}
use Rattle.cedar_policy.specs.declared.err.TemplateValidationError.TheVariants.{SlotsInConditionClause}
use Rattle.cedar_policy.specs.declared.err.TemplateValidationError.TheVariants.{InvalidActionType, SlotCacheMismatch}
use Rattle.cedar_policy.specs.declared.err.TemplateValidationError.TheVariants.{InvalidExpression, Memory}

-- An error of validation: a slot in the clause, uids that are not actions, inconsistent slots, an invalid clause, or an
-- allocation failure.
pub data Fault : Type 0 where
  slot_in_clause : SlotId → Fault
  no_actions : List UidParts → Fault
  other_slots : Fault
  invalid_clause : ExprValidationError → Fault
  no_memory : Fault

-- The error as callers see it.
abbrev pub fault_of : TemplateValidationError → Fault
fault_of (SlotsInConditionClause s) = slot_in_clause s
fault_of (InvalidActionType us) = no_actions (map (λ u. uid_parts u.value) (all_of us))
fault_of SlotCacheMismatch = other_slots
fault_of (InvalidExpression e) = invalid_clause e
fault_of Memory = no_memory
