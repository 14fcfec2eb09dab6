-- The results of each check of a template.
use Rattle.std.specs.Prelude.{◌≡◌, List, [], map, Option, Some, None, Result, Ok, Err}
use Rattle.cedar_ids.specs.Name.{NameParts}
use Rattle.cedar_ids.specs.NonEmpties.{all_of}
use Rattle.cedar_ids.specs.Uid.{UidParts}
use Rattle.cedar_ids.specs.UidOf.{uid_parts}
use Rattle.cedar_terms.specs.declared.err.ExprValidationError.TheVariants as exprs
use Rattle.cedar_terms.specs.declared.slot.SlotId.{SlotId}
use Rattle.cedar_policy.specs.Statics.{IsFirst}
use Rattle.cedar_policy.specs.declared.err.TemplateValidationError.{TemplateValidationError}
use Rattle.cedar_policy.specs.declared.err.TemplateValidationError.TheVariants.{SlotsInConditionClause}
use Rattle.cedar_policy.specs.declared.err.TemplateValidationError.TheVariants.{InvalidActionType, SlotCacheMismatch}
use Rattle.cedar_policy.specs.declared.err.TemplateValidationError.TheVariants.{InvalidExpression, Memory}
use Rattle.cedar_terms.specs.ExprTree.{ExprTree}
use Rattle.cedar_action.specs.Rules.{ActionRule}
use Rattle.cedar_policy.specs.Validation.{HasActions, IsTemplateFault, clause_fault}

-- Whether a check returns `Ok` if there are no slots, else the first of them. `Memory` is always possible, and other
-- errors are not.
abbrev pub HasNoSlot : {A : Type 0} → Result A TemplateValidationError → List SlotId → Type 0
HasNoSlot (Ok x) slots = slots ≡ []
HasNoSlot (Err (SlotsInConditionClause s)) slots = IsFirst s slots
HasNoSlot (Err (InvalidActionType us)) slots = ⊥
HasNoSlot (Err SlotCacheMismatch) slots = ⊥
HasNoSlot (Err (InvalidExpression e)) slots = ⊥
HasNoSlot (Err Memory) slots = Unit {0}

-- Whether a check returns `Ok` if there are no uids, else all of them. `Memory` is always possible, and other errors
-- are not.
abbrev pub HasOnlyActions : {A : Type 0} → Result A TemplateValidationError → List UidParts → Type 0
HasOnlyActions (Ok x) uids = uids ≡ []
HasOnlyActions (Err (SlotsInConditionClause s)) uids = ⊥
HasOnlyActions (Err (InvalidActionType us)) uids = map (λ u. uid_parts u.value) (all_of us) ≡ uids
HasOnlyActions (Err SlotCacheMismatch) uids = ⊥
HasOnlyActions (Err (InvalidExpression e)) uids = ⊥
HasOnlyActions (Err Memory) uids = Unit {0}

-- Whether a check returns `Ok` if there is no function, else the function. `Memory` is always possible, and other
-- errors are not.
abbrev pub HasOnlyKnown : {A : Type 0} → Result A TemplateValidationError → Option NameParts → Type 0
HasOnlyKnown (Ok x) fault = fault ≡ None
HasOnlyKnown (Err (SlotsInConditionClause s)) fault = ⊥
HasOnlyKnown (Err (InvalidActionType us)) fault = ⊥
HasOnlyKnown (Err SlotCacheMismatch) fault = ⊥
HasOnlyKnown (Err (InvalidExpression (exprs.UnknownFunction f))) fault = fault ≡ Some f
HasOnlyKnown (Err (InvalidExpression exprs.Memory)) fault = ⊥
HasOnlyKnown (Err Memory) fault = Unit {0}

-- Whether a check returns `Ok` if there is no error, else the first one.
abbrev pub TellsFirstFault : {A : Type 0} → Result A TemplateValidationError → Option ExprTree → ActionRule → Type 0
TellsFirstFault (Ok x) c a = HasActions c a × (clause_fault c ≡ None)
TellsFirstFault (Err e) c a = IsTemplateFault e c a
