-- A fault of a policy set, as the caller receives it.
use Rattle.std.specs.Prelude.{◌≡◌, ◌⊎◌, ℕ, List, ◌∷◌, ◌++◌, All, IfOk, MatchResult, Option, Some, None, Result, Ok, Err}
use Rattle.std.proofs.Common.{ap, sym, subst, ◌∙◌, inl, inr, arith, refl}
use Rattle.cedar_policy.specs.declared.err.TemplateValidationError.{TemplateValidationError}
use Rattle.cedar_policy.specs.declared.err.TemplateValidationError.TheVariants as templates
use Rattle.cedar_policy_set_errors.specs.declared.err.PolicySetValidationError.{PolicySetValidationError}
use Rattle.cedar_policy_set_errors.specs.declared.err.PolicySetValidationError.TheVariants.{InvalidTemplate, Memory}
use Rattle.cedar_policy_set_errors.specs.declared.err.PolicySetValidationError.TheVariants.{LinkToSlotlessTemplate}
use Rattle.cedar_policy_maps.specs.PolicySets.{SetParts}
use Rattle.cedar_policy_set.specs.Validity.{HasSlottedLinks, IsSetFault, IsValidBody}
use Rattle.cedar_c_lists.specs.Reasons.{number_of, words_of}
use Rattle.cedar_c_lists.specs.declared.reason.Reason.{Reason}
use Rattle.cedar_c_lists.specs.declared.reason.Reason.TheVariants as reasons
use Rattle.cedar_c_sets.specs.Validity.{IsFaultReported, NamesFault, fault_reason}
use Rattle.cedar_c_sets.specs.declared.error_text.ErrorText.{ErrorText}

-- The fault of a copy is a fault of the set.
pub told_fault : {E : Type 0} (e : PolicySetValidationError) (copy now : SetParts) (told : Result ErrorText E) (w : Reason)
    (before text : List ℕ) → copy ≡ now → IsSetFault e copy
    → IfOk told (λ t. IsFaultReported e t.reason t.text.items)
    → MatchResult told (λ t. (w ≡ t.reason) × (text ≡ t.text.items)) (λ _. (w ≡ reasons.NoMemory) × (text ≡ before))
    → (w ≡ reasons.NoMemory) ⊎ ((x : PolicySetValidationError) × IsSetFault x now × IsFaultReported x w text)
told_fault e copy now (Err f) w before text is fault t h = inl h.0
told_fault e copy now (Ok told) w before text is fault t h =
    inr (
      e,
      subst (IsSetFault e) is fault,
      subst (λ v. IsFaultReported e v text) (sym h.0) (subst (IsFaultReported e told.reason) (sym h.1) t),
    )

-- No fault of a body has the reason of an allocation failure.
no_memory_named : (e : TemplateValidationError) (id text : List ℕ) → NamesFault (fault_reason e) id reasons.NoMemory text
    → ⊥
no_memory_named (templates.SlotsInConditionClause s) id text t = absurd (omega (arith, ap number_of t.0))
no_memory_named (templates.InvalidActionType us) id text t = absurd (omega (arith, ap number_of t.0))
no_memory_named (templates.InvalidExpression f) id text t = absurd (omega (arith, ap number_of t.0))
no_memory_named templates.SlotCacheMismatch id text t = absurd (omega (arith, ap number_of t.0))
no_memory_named templates.Memory id text t = t

-- No fault of a set has the reason of an allocation failure.
no_memory_told : (e : PolicySetValidationError) (text : List ℕ) → IsFaultReported e reasons.NoMemory text → ⊥
no_memory_told (LinkToSlotlessTemplate l i) text t = absurd (omega (arith, ap number_of t.0))
no_memory_told (InvalidTemplate i e) text t = no_memory_named e i text t
no_memory_told Memory text t = t

-- The text of the last error does not change after an allocation failure.
pub kept_before : {E : Type 0} (e : PolicySetValidationError) (told : Result ErrorText E) (w : Reason) (before text : List ℕ)
    → IfOk told (λ t. IsFaultReported e t.reason t.text.items)
    → MatchResult told (λ t. (w ≡ t.reason) × (text ≡ t.text.items)) (λ _. (w ≡ reasons.NoMemory) × (text ≡ before))
    → w ≡ reasons.NoMemory → text ≡ before
kept_before e (Err f) w before text t h m = h.1
kept_before e (Ok told) w before text t h m =
    absurd (no_memory_told e told.text.items (subst (λ v. IsFaultReported e v told.text.items) (sym h.0 ∙ m) t))
