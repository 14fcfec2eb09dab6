-- The result of validating a policy set.
use Rattle.std.specs.Prelude.{◌≡◌, ◌⊎◌, ℕ, List, ◌∷◌, ◌++◌, Option, Some, None, Result, Ok, Err, All}
use Rattle.cedar_policy.specs.declared.err.TemplateValidationError.{TemplateValidationError}
use Rattle.cedar_policy.specs.declared.err.TemplateValidationError.TheVariants as templates
use Rattle.cedar_policy_set_errors.specs.declared.err.PolicySetValidationError.{PolicySetValidationError}
use Rattle.cedar_policy_set_errors.specs.declared.err.PolicySetValidationError.TheVariants.{InvalidTemplate, Memory}
use Rattle.cedar_policy_set_errors.specs.declared.err.PolicySetValidationError.TheVariants.{LinkToSlotlessTemplate}
use Rattle.cedar_policy_set.specs.Validity.{HasSlottedLinks, IsSetFault, IsValidBody}
use Rattle.cedar_c_lists.specs.Reasons.{words_of}
use Rattle.cedar_c_lists.specs.declared.reason.Reason.{Reason}
use Rattle.cedar_c_lists.specs.declared.reason.Reason.TheVariants as reasons
use Rattle.cedar_c_sets.specs.declared.set_state.SetState.{SetState}

-- The reason of an invalid body. An allocation failure has none. `SlotCacheMismatch` never occurs.
abbrev pub fault_reason : TemplateValidationError → Option Reason
fault_reason (templates.SlotsInConditionClause s) = Some reasons.SlotInClause
fault_reason (templates.InvalidActionType us) = Some reasons.NotActions
fault_reason (templates.InvalidExpression f) = Some reasons.UnknownFunction
fault_reason templates.SlotCacheMismatch = Some reasons.SlotInClause
fault_reason templates.Memory = None

-- Holds if the optional reason is w, and the text is the words of w, a blank and the id.
abbrev pub NamesFault : Option Reason → List ℕ → Reason → List ℕ → Type 0
NamesFault None id w text = ⊥
NamesFault (Some x) id w text = (w ≡ x) × (text ≡ words_of w ++ (32 ∷ id))

-- Holds if w and the text are the reason and the text for an invalid set. They name a link whose template has no slots,
-- or an invalid body.
abbrev pub IsFaultReported : PolicySetValidationError → Reason → List ℕ → Type 0
IsFaultReported (LinkToSlotlessTemplate l t) w text = NamesFault (Some reasons.SlotlessLink) l w text
IsFaultReported (InvalidTemplate i e) w text = NamesFault (fault_reason e) i w text
IsFaultReported Memory w text = ⊥

-- Holds for the effect of validating a set. If links and bodies are valid, nothing changes. Otherwise the error is the
-- first fault or an allocation failure. The set, `answer` and `nodes` do not change, and after an allocation failure
-- neither does the text of the last error.
abbrev pub Validates : {A B H : Type 0} → Result A Reason → SetState B H → SetState B H → Type 0
Validates (Ok a) i j = HasSlottedLinks i.set × All IsValidBody i.set.bodies × (j ≡ i)
Validates (Err w) i j =
    (j.set ≡ i.set) × (j.answer ≡ i.answer) × (j.nodes.items ≡ i.nodes.items)
    × (w ≡ reasons.NoMemory → j.refusal.items ≡ i.refusal.items)
    × ((w ≡ reasons.NoMemory)
    ⊎ ((e : PolicySetValidationError) × IsSetFault e i.set × IsFaultReported e w j.refusal.items))
