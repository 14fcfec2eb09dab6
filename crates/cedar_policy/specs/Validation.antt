-- The results of validating a template.
use Rattle.std.specs.Prelude.{◌≡◌, [], map, Option, Some, None, Result, Ok, Err}
use Rattle.cedar_ids.specs.Name.{NameParts}
use Rattle.cedar_ids.specs.NonEmpties.{all_of}
use Rattle.cedar_ids.specs.UidOf.{uid_parts}
use Rattle.cedar_terms.specs.ExprTree.{ExprTree}
use Rattle.cedar_terms.specs.Walk.{first_unknown_function}
use Rattle.cedar_terms.specs.declared.err.ExprValidationError.TheVariants as exprs
use Rattle.cedar_action.specs.Rules.{ActionRule}
use Rattle.cedar_action.specs.RuleReads.{non_actions}
use Rattle.cedar_body.specs.Bodies.{BodyParts, clause_slots}
use Rattle.cedar_policy.specs.Statics.{IsFirst}
use Rattle.cedar_policy.specs.declared.err.TemplateValidationError.{TemplateValidationError}
use Rattle.cedar_policy.specs.declared.err.TemplateValidationError.TheVariants.{SlotsInConditionClause}
use Rattle.cedar_policy.specs.declared.err.TemplateValidationError.TheVariants.{InvalidActionType, SlotCacheMismatch}
use Rattle.cedar_policy.specs.declared.err.TemplateValidationError.TheVariants.{InvalidExpression, Memory}

-- The first unknown function that a clause calls, if there is one.
abbrev pub clause_fault : Option ExprTree → Option NameParts
clause_fault None = None
clause_fault (Some e) = first_unknown_function e

-- Whether a clause contains no slot.
abbrev pub HasPlainClause : Option ExprTree → Type 0
HasPlainClause c = clause_slots c ≡ []

-- Whether a clause contains no slot and all uids of an action constraint are actions.
abbrev pub HasActions : Option ExprTree → ActionRule → Type 0
HasActions c a = HasPlainClause c × (non_actions a ≡ [])

-- Whether an error is the first one of a clause and an action constraint. The checks are, in this order: the clause
-- contains a slot, some uids are not actions, and the clause calls an unknown function. `Memory` implies nothing.
abbrev pub IsTemplateFault : TemplateValidationError → Option ExprTree → ActionRule → Type 0
IsTemplateFault (SlotsInConditionClause s) c a = IsFirst s (clause_slots c)
IsTemplateFault (InvalidActionType us) c a = HasPlainClause c
    × (map (λ u. uid_parts u.value) (all_of us) ≡ non_actions a)
IsTemplateFault SlotCacheMismatch c a = ⊥
IsTemplateFault (InvalidExpression (exprs.UnknownFunction f)) c a = HasActions c a × (clause_fault c ≡ Some f)
IsTemplateFault (InvalidExpression exprs.Memory) c a = ⊥
IsTemplateFault Memory c a = Unit {0}

-- Whether a result is right: the template itself if there is no error, else the first error.
abbrev pub Validated : Result BodyParts TemplateValidationError → BodyParts → Type 0
Validated (Ok t) b = HasActions b.clause b.action × (clause_fault b.clause ≡ None) × (t ≡ b)
Validated (Err e) b = IsTemplateFault e b.clause b.action
