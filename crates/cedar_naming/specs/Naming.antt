-- Which policies and templates name a uid.
use Rattle.std.specs.Prelude.{Bool, false, ◌||◌, List, Option, Some, None}
use Rattle.std.specs.List.{list_any}
use Rattle.cedar_ids.specs.Uid.{UidParts, uid_eq}
use Rattle.cedar_terms.specs.LiteralTree.{uid_literal}
use Rattle.cedar_terms.specs.ExprTree.{ExprTree, val_node}
use Rattle.cedar_terms.specs.Walk.{walk}
use Rattle.cedar_terms.specs.declared.slot.SlotId.TheVariants.{Principal, Action, Resource}
use Rattle.cedar_scope.specs.ScopeReads.{constraint_uid}
use Rattle.cedar_action.specs.Rules.{ActionRule, any_action, among, just, among_slot, just_slot}
use Rattle.cedar_binding.specs.Bindings.{EnvParts}
use Rattle.cedar_body.specs.Bodies.{BodyParts}
use Rattle.cedar_policy.specs.Policies.{PolicyParts}

-- Whether there is a uid, and it equals q.
abbrev pub is_uid : UidParts → Option UidParts → Bool
is_uid q None = false
is_uid q (Some u) = uid_eq u q

-- Whether an action constraint contains the uid q.
abbrev pub rule_names : UidParts → ActionRule → Bool
rule_names q any_action = false
rule_names q (among us) = list_any (λ u. uid_eq u q) us
rule_names q (just u) = uid_eq u q
rule_names q among_slot = false
rule_names q just_slot = false

-- Whether a node of an expression is the uid q.
abbrev pub is_uid_node : UidParts → ExprTree → Bool
is_uid_node q (val_node (uid_literal u)) = uid_eq u q
is_uid_node q e = false

-- Whether there is a clause, and one of its nodes is the uid q. Unknowns are not looked at.
abbrev pub clause_names : UidParts → Option ExprTree → Bool
clause_names q None = false
clause_names q (Some e) = list_any (is_uid_node q) (walk e)

-- Whether a body names the uid q: in a constraint on the principal, action or resource, or in its clause.
abbrev pub body_names : UidParts → BodyParts → Bool
body_names q b =
    is_uid q (constraint_uid b.principal) || rule_names q b.action || is_uid q (constraint_uid b.resource)
    || clause_names q b.clause

-- Whether the uid q is bound to a slot.
abbrev pub env_names : UidParts → EnvParts → Bool
env_names q e = is_uid q (e Principal) || is_uid q (e Action) || is_uid q (e Resource)

-- Whether a policy names the uid q: in its bindings, or in the body of its template.
abbrev pub policy_names : UidParts → PolicyParts → Bool
policy_names q p = env_names q p.env || body_names q p.template
