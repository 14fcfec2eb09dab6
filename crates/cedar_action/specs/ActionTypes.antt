-- The results of checking the types of an action constraint.
use Rattle.std.specs.Prelude.{◌≡◌, [], map, Result, Ok, Err}
use Rattle.cedar_ids.specs.NonEmpties.{all_of}
use Rattle.cedar_ids.specs.UidOf.{uid_parts}
use Rattle.cedar_action.specs.Rules.{ActionRule}
use Rattle.cedar_action.specs.RuleReads.{non_actions}
use Rattle.cedar_action.specs.Views.{rule_of}
use Rattle.cedar_action.specs.declared.action.ActionConstraint.{ActionConstraint}
use Rattle.cedar_action.specs.declared.action.ActionTypesError.{ActionTypesError}
use Rattle.cedar_action.specs.declared.action.ActionTypesError.TheVariants.{NotActions, Memory}

-- Whether an error is right for a rule. `NotActions` contains exactly the uids that are not actions, in list order.
-- `Memory` is possible only if there is such a uid.
abbrev pub RefusesTypes : ActionTypesError → ActionRule → Type 0
RefusesTypes (NotActions us) a = map (λ u. uid_parts u.value) (all_of us) ≡ non_actions a
RefusesTypes Memory a = non_actions a ≡ [] → ⊥

-- Whether a result is right for a rule: `Ok` if each uid is an action, else a right error.
abbrev pub ChecksTypes : {A : Type 0} → Result A ActionTypesError → ActionRule → Type 0
ChecksTypes (Ok x) a = non_actions a ≡ []
ChecksTypes (Err e) a = RefusesTypes e a

-- Whether a result is right for a constraint: the constraint itself if each uid is an action, else a right error.
abbrev pub PassesTypes : Result ActionConstraint ActionTypesError → ActionConstraint → Type 0
PassesTypes (Ok x) c = (non_actions (rule_of c) ≡ []) × (x ≡ c)
PassesTypes (Err e) c = RefusesTypes e (rule_of c)
