-- A body as callers see it, its condition, and the slots in the condition. Locations are not part of it.
use Rattle.std.specs.Prelude.{ℕ, List, [], true, Option, Some, None}
use Rattle.cedar_terms.specs.LiteralTree.{bool_literal}
use Rattle.cedar_terms.specs.ExprTree.{ExprTree, val_node, and_node}
use Rattle.cedar_terms.specs.Walk.{slots_of}
use Rattle.cedar_terms.specs.declared.slot.SlotId.{SlotId}
use Rattle.cedar_annotation.specs.Annotations.{AnnotationsView}
use Rattle.cedar_scope.specs.Scope.{Constraint}
use Rattle.cedar_action.specs.Rules.{ActionRule}
use Rattle.cedar_scope.specs.ScopeTrees.{constraint_expr}
use Rattle.cedar_action.specs.RuleTrees.{rule_expr}
use Rattle.cedar_scope.specs.declared.variable.PrincipalOrResource.TheVariants as variables
use Rattle.cedar_body.specs.declared.effect.Effect.{Effect}

-- The parts of a body: its id, annotations and effect, the constraints on principal, action and resource, and its
-- optional clause.
pub record BodyParts : Type 0 where
  pub id : List ℕ
  pub annotations : AnnotationsView
  pub effect : Effect
  pub principal : Constraint
  pub action : ActionRule
  pub resource : Constraint
  pub clause : Option ExprTree

-- The expression of a body's constraint on the principal.
abbrev pub principal_expr : BodyParts → ExprTree
principal_expr b = constraint_expr variables.Principal b.principal

-- The expression of a body's constraint on the action.
abbrev pub action_expr : BodyParts → ExprTree
action_expr b = rule_expr b.action

-- The expression of a body's constraint on the resource.
abbrev pub resource_expr : BodyParts → ExprTree
resource_expr b = constraint_expr variables.Resource b.resource

-- The expression of an optional clause: `true` if there is none.
abbrev pub clause_expr : Option ExprTree → ExprTree
clause_expr None = val_node (bool_literal true)
clause_expr (Some e) = e

-- The condition of a body: `principal && (action && (resource && clause))`, with the expressions of the constraints.
abbrev pub condition : BodyParts → ExprTree
condition b = and_node (principal_expr b) (and_node (action_expr b) (and_node (resource_expr b) (clause_expr b.clause)))

-- The slots of a body's condition, in the order of `walk` and with repetitions.
abbrev pub body_slots : BodyParts → List SlotId
body_slots b = slots_of (condition b)

-- The slots of an optional clause.
abbrev pub clause_slots : Option ExprTree → List SlotId
clause_slots None = []
clause_slots (Some e) = slots_of e

-- The body with another id, and all else unchanged.
abbrev pub with_id : List ℕ → BodyParts → BodyParts
with_id i b =
    record {
      id = i;
      annotations = b.annotations;
      effect = b.effect;
      principal = b.principal;
      action =
          b.action;
      resource = b.resource;
      clause = b.clause;
    }
