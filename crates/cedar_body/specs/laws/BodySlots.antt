-- The slots of a body.
use Rattle.std.specs.Prelude.{◌≡◌, ℕ, List, [], ◌∷◌, ◌++◌, Option, Some, None, refl}
use Rattle.std.proofs.Common.{◌∙◌}
use Rattle.std.proofs.lemmas.List.{append_assoc}
use Rattle.cedar_terms.specs.ExprTree.{ExprTree, and_node}
use Rattle.cedar_terms.specs.Walk.{slots_of}
use Rattle.cedar_terms.specs.laws.SlotLaws.{slots_of-and}
use Rattle.cedar_terms.specs.declared.slot.SlotId.{SlotId}
use Rattle.cedar_scope.specs.laws.ScopeSlots.{constraint_slots, slots_of-constraint_expr}
use Rattle.cedar_action.specs.laws.RuleSlots.{rule_slots, slots_of-rule_expr}
use Rattle.cedar_scope.specs.declared.variable.PrincipalOrResource.TheVariants as variables
use Rattle.cedar_body.specs.Bodies.{BodyParts, principal_expr, action_expr, resource_expr, clause_expr, condition}
use Rattle.cedar_body.specs.Bodies.{body_slots, clause_slots}

pub slots_of-clause_expr : (c : Option ExprTree) → slots_of (clause_expr c) ≡ clause_slots c
slots_of-clause_expr None = refl
slots_of-clause_expr (Some e) = refl

two_slots : (x y : ExprTree) (xs ys : List SlotId) → slots_of x ≡ xs → slots_of y ≡ ys
    → slots_of (and_node x y) ≡ ys ++ xs
two_slots x y xs ys p q = slots_of-and x y ∙ (λ i. q i ++ p i)

-- The slots of a body: those of the clause, then the resource's, the action's and the principal's.
pub body_slots-parts : (b : BodyParts) →
    body_slots b ≡ clause_slots b.clause ++ (constraint_slots variables.Resource b.resource
    ++ (rule_slots b.action ++ constraint_slots variables.Principal b.principal))
body_slots-parts b =
    two_slots (principal_expr b) (and_node (action_expr b) (and_node (resource_expr b) (clause_expr b.clause))) _ _
    (slots_of-constraint_expr variables.Principal b.principal)
    (two_slots (action_expr b) (and_node (resource_expr b) (clause_expr b.clause)) _ _ (slots_of-rule_expr b.action)
    (two_slots (resource_expr b) (clause_expr b.clause) _ _ (slots_of-constraint_expr variables.Resource b.resource)
    (slots_of-clause_expr b.clause)))
    ∙ append_assoc (clause_slots b.clause ++ constraint_slots variables.Resource b.resource) (rule_slots b.action)
    (constraint_slots variables.Principal b.principal)
    ∙ append_assoc (clause_slots b.clause) (constraint_slots variables.Resource b.resource) (rule_slots b.action
    ++ constraint_slots variables.Principal b.principal)
