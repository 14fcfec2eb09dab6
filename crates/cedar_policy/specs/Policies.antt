-- A policy as callers see it: a static policy or a link. Locations are not part of it.
use Rattle.std.specs.Prelude.{◌≡◌, ℕ, List, [], Option, Some, None}
use Rattle.std.specs.Option.{option_map, unwrap_or}
use Rattle.cedar_ids.specs.Uid.{UidParts}
use Rattle.cedar_terms.specs.ExprTree.{ExprTree}
use Rattle.cedar_annotation.specs.Annotations.{AnnotationsView}
use Rattle.cedar_scope.specs.Scope.{Constraint, any}
use Rattle.cedar_terms.specs.declared.slot.SlotId.TheVariants.{Principal, Action, Resource}
use Rattle.cedar_action.specs.Rules.{ActionRule, any_action}
use Rattle.cedar_action.specs.RuleReads.{filled_rule}
use Rattle.cedar_scope.specs.ScopeReads.{filled}
use Rattle.cedar_body.specs.Bodies.{BodyParts, body_slots, with_id}
use Rattle.cedar_body.specs.declared.effect.Effect.{Effect}
use Rattle.cedar_binding.specs.Bindings.{EnvParts, no_env, FitsSlots}

-- The parts of a policy: its template, its own id if it is a link, and its bindings.
pub record PolicyParts : Type 0 where
  pub template : BodyParts
  pub link : Option (List ℕ)
  pub env : EnvParts

-- The id of a policy: the link's id, or the template's id for a static policy.
abbrev pub policy_id : PolicyParts → List ℕ
policy_id p = unwrap_or p.link p.template.id

-- The static policy of a body.
abbrev pub static_policy : BodyParts → PolicyParts
static_policy b = record { template = b; link = None; env = no_env }

-- The body with these parts, whose scope constraints allow any request.
abbrev pub unconstrained : List ℕ → AnnotationsView → Effect → ExprTree → BodyParts
unconstrained i a f e =
    record {
      id = i;
      annotations = a;
      effect = f;
      principal = any;
      action = any_action;
      resource = any;
      clause =
          Some e;
    }

-- The invariant of policies. The bindings fit the slots of the template, and a policy without a link has a template
-- without slots.
pub record IsPolicy (p : PolicyParts) : Type 0 where
  pub total : FitsSlots (body_slots p.template) p.env
  pub unlinked : p.link ≡ None → body_slots p.template ≡ []

-- The policy with another id: the template gets the new id if there is no link, else the link gets it.
abbrev pub renamed : List ℕ → Option (List ℕ) → PolicyParts → PolicyParts
renamed i None p = record { template = with_id i p.template; link = None; env = p.env }
renamed i (Some l) p = record { template = p.template; link = Some i; env = p.env }

-- The same policy with another id.
abbrev pub with_policy_id : List ℕ → PolicyParts → PolicyParts
with_policy_id i p = renamed i p.link p

-- The same link, with another id for its template. `None` for a static policy.
abbrev pub with_template_id : List ℕ → PolicyParts → Option PolicyParts
with_template_id i p = option_map (λ l. record { template = with_id i p.template; link = Some l; env = p.env }) p.link

-- The constraint with its slot filled, if a uid is bound to the slot.
abbrev pub filled_by : Option UidParts → Constraint → Constraint
filled_by None c = c
filled_by (Some u) c = filled u c

-- The action constraint with its slot filled, if a uid is bound to the slot.
abbrev pub filled_rule_by : Option UidParts → ActionRule → ActionRule
filled_rule_by None a = a
filled_rule_by (Some u) a = filled_rule u a

-- The constraint on a policy's principal: its template's constraint with the slot filled.
abbrev pub principal_of : PolicyParts → Constraint
principal_of p = filled_by (p.env Principal) p.template.principal

-- The constraint on a policy's action: its template's constraint with the slot filled.
abbrev pub action_of : PolicyParts → ActionRule
action_of p = filled_rule_by (p.env Action) p.template.action

-- The constraint on a policy's resource: its template's constraint with the slot filled.
abbrev pub resource_of : PolicyParts → Constraint
resource_of p = filled_by (p.env Resource) p.template.resource
