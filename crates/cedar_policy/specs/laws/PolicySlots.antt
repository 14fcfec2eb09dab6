-- The slots of a policy's template, and the constraints with filled slots.
use Rattle.std.specs.Prelude.{◌≡◌, List, [], ◌∷◌, ◌++◌, Bool, true, false, ◌||◌, Option, Some, None, if◌then◌else◌}
use Rattle.std.specs.Prelude.{is_some, refl}
use Rattle.std.proofs.Common.{ap, subst, sym, ◌∙◌}
use Rattle.std.specs.List.{list_any}
use Rattle.std.proofs.lemmas.Bool.{false≢true}
use Rattle.std.proofs.lemmas.List.{append-nil, append_assoc}
use Rattle.cedar_terms.specs.ExprTree.{ExprTree}
use Rattle.cedar_terms.specs.SlotTree.{same_slot}
use Rattle.cedar_terms.specs.laws.SlotIdLaws.{same_slot_decides}
use Rattle.cedar_terms.specs.Walk.{slots_of}
use Rattle.cedar_terms.specs.declared.slot.SlotId.{SlotId}
use Rattle.cedar_terms.specs.declared.slot.SlotId.TheVariants.{Principal, Action, Resource}
use Rattle.cedar_scope.specs.Scope.{Constraint, any}
use Rattle.cedar_scope.specs.ScopeReads.{has_slot}
use Rattle.cedar_scope.specs.laws.Filling.{has_slot-filled}
use Rattle.cedar_scope.specs.laws.ScopeSlots.{constraint_slots}
use Rattle.cedar_scope.specs.declared.variable.PrincipalOrResource.TheVariants as variables
use Rattle.cedar_action.specs.Rules.{ActionRule, any_action}
use Rattle.cedar_action.specs.RuleReads.{rule_has_slot}
use Rattle.cedar_action.specs.laws.RuleSlots.{rule_slots, rule_has_slot-filled}
use Rattle.cedar_body.specs.Bodies.{BodyParts, body_slots, clause_slots}
use Rattle.cedar_body.specs.laws.BodySlots.{body_slots-parts}
use Rattle.cedar_binding.specs.Bindings.{is_listed_id, BindsExactly}
use Rattle.cedar_binding.specs.laws.NoBindings.{nothing_bound}
use Rattle.cedar_ids.specs.Uid.{UidParts}
use Rattle.cedar_policy.specs.Policies.{PolicyParts, IsPolicy, static_policy, filled_by, filled_rule_by, principal_of}
use Rattle.cedar_policy.specs.Policies.{action_of, resource_of}

neither_left : (a b : Bool) → (a || b) ≡ false → a ≡ false
neither_left true b h = h
neither_left false b h = refl

neither_right : (a b : Bool) → (a || b) ≡ false → b ≡ false
neither_right true b h = absurd (cc)
neither_right false b h = h

not_before : (p : SlotId → Bool) (xs ys : List SlotId) → list_any p (xs ++ ys) ≡ false → list_any p xs ≡ false
not_before p [] ys h = refl
not_before p (x ∷ xs) ys h =
    let first = neither_left (p x) (list_any p (xs ++ ys)) h in
    let rest = not_before p xs ys (neither_right (p x) (list_any p (xs ++ ys)) h) in
    λ i. first i || rest i

not_after : (p : SlotId → Bool) (xs ys : List SlotId) → list_any p (xs ++ ys) ≡ false → list_any p ys ≡ false
not_after p [] ys h = h
not_after p (x ∷ xs) ys h = not_after p xs ys (neither_right (p x) (list_any p (xs ++ ys)) h)

not_there : (s : SlotId) (h : Bool) → list_any (same_slot s) (if h then s ∷ [] else []) ≡ false → h ≡ false
not_there s true e = absurd (false≢true (sym (neither_left (same_slot s s) false e) ∙ (same_slot_decides s s).1 refl))
not_there s false e = refl

-- The slots of the clause, followed by the resource's, the action's and the principal's, are the slots of the body.
pub slots_in_turn : (b : BodyParts) →
    ((clause_slots b.clause ++ constraint_slots variables.Resource b.resource) ++ rule_slots b.action)
    ++ constraint_slots variables.Principal b.principal ≡ body_slots b
slots_in_turn b =
    append_assoc (clause_slots b.clause ++ constraint_slots variables.Resource b.resource) (rule_slots b.action)
    (constraint_slots variables.Principal b.principal)
    ∙ append_assoc (clause_slots b.clause) (constraint_slots variables.Resource b.resource) (rule_slots b.action
    ++ constraint_slots variables.Principal b.principal)
    ∙ sym (body_slots-parts b)

-- A slot that is not in the body is not in the constraints.
behind_clause : (s : SlotId) (b : BodyParts) → is_listed_id (body_slots b) s ≡ false →
    list_any (same_slot s) (constraint_slots variables.Resource b.resource
    ++ (rule_slots b.action ++ constraint_slots variables.Principal b.principal)) ≡ false
behind_clause s b h = not_after (same_slot s) (clause_slots b.clause) _
    (ap (λ xs. is_listed_id xs s) (sym (body_slots-parts b)) ∙ h)

-- If the principal's slot is not in the body, the principal's constraint does not refer to it.
principal_without_slot : (b : BodyParts) → is_listed_id (body_slots b) Principal ≡ false → has_slot b.principal ≡ false
principal_without_slot b h =
    not_there Principal (has_slot b.principal)
    (not_after (same_slot Principal) (rule_slots b.action) _
    (not_after (same_slot Principal) (constraint_slots variables.Resource b.resource) _
    (behind_clause Principal b h)))

-- If the action's slot is not in the body, the action's constraint does not refer to it.
action_without_slot : (b : BodyParts) → is_listed_id (body_slots b) Action ≡ false → rule_has_slot b.action ≡ false
action_without_slot b h =
    not_there Action (rule_has_slot b.action)
    (not_before (same_slot Action) (rule_slots b.action) _
    (not_after (same_slot Action) (constraint_slots variables.Resource b.resource) _ (behind_clause Action b h)))

-- If the resource's slot is not in the body, the resource's constraint does not refer to it.
resource_without_slot : (b : BodyParts) → is_listed_id (body_slots b) Resource ≡ false → has_slot b.resource ≡ false
resource_without_slot b h =
    not_there Resource (has_slot b.resource) (not_before (same_slot Resource)
    (constraint_slots variables.Resource b.resource) _ (behind_clause Resource b h))

filled_where : (o : Option UidParts) (c : Constraint) → (o ≡ None → has_slot c ≡ false)
    → has_slot (filled_by o c) ≡ false
filled_where None c f = f refl
filled_where (Some u) c f = has_slot-filled u c

-- If a policy binds no principal, its template's constraint on the principal has no slot.
pub principal_unbound : (p : PolicyParts) → BindsExactly (body_slots p.template) p.env → p.env Principal ≡ None
    → has_slot p.template.principal ≡ false
principal_unbound p f e = principal_without_slot p.template (sym (f Principal) ∙ ap is_some e)

-- The constraint on a policy's principal has no slot.
pub principal_holds_no_slot : (p : PolicyParts) → BindsExactly (body_slots p.template) p.env
    → has_slot (principal_of p) ≡ false
principal_holds_no_slot p f = filled_where (p.env Principal) p.template.principal (principal_unbound p f)

filled_rule_where : (o : Option UidParts) (a : ActionRule) → (o ≡ None → rule_has_slot a ≡ false)
    → rule_has_slot (filled_rule_by o a) ≡ false
filled_rule_where None a f = f refl
filled_rule_where (Some u) a f = rule_has_slot-filled u a

-- If a policy binds no action, its template's constraint on the action has no slot.
pub action_unbound : (p : PolicyParts) → BindsExactly (body_slots p.template) p.env → p.env Action ≡ None
    → rule_has_slot p.template.action ≡ false
action_unbound p f e = action_without_slot p.template (sym (f Action) ∙ ap is_some e)

pub action_holds_no_slot : (p : PolicyParts) → BindsExactly (body_slots p.template) p.env
    → rule_has_slot (action_of p) ≡ false
action_holds_no_slot p f = filled_rule_where (p.env Action) p.template.action (action_unbound p f)

-- If a policy binds no resource, its template's constraint on the resource has no slot.
pub resource_unbound : (p : PolicyParts) → BindsExactly (body_slots p.template) p.env → p.env Resource ≡ None
    → has_slot p.template.resource ≡ false
resource_unbound p f e = resource_without_slot p.template (sym (f Resource) ∙ ap is_some e)

pub resource_holds_no_slot : (p : PolicyParts) → BindsExactly (body_slots p.template) p.env
    → has_slot (resource_of p) ≡ false
resource_holds_no_slot p f = filled_where (p.env Resource) p.template.resource (resource_unbound p f)

-- A body whose constraints allow any request, and whose clause has no slots, has no slots.
pub unconstrained_slots : (b : BodyParts) (e : ExprTree) → b.principal ≡ any → b.action ≡ any_action → b.resource ≡ any
    → b.clause ≡ Some e → slots_of e ≡ [] → body_slots b ≡ []
unconstrained_slots b e p a r c h =
    body_slots-parts b
    ∙ (λ i. clause_slots (c i) ++ (constraint_slots variables.Resource (r i)
    ++ (rule_slots (a i) ++ constraint_slots variables.Principal (p i))))
    ∙ append-nil (slots_of e)
    ∙ h

-- A policy without a link is the static policy of its template.
pub unlinked_is_static : (p : PolicyParts) → IsPolicy p → p.link ≡ None → p ≡ static_policy p.template
unlinked_is_static p h e =
    let nothing = nothing_bound p.env (subst (λ slots. BindsExactly slots p.env) (h.unlinked e) h.total.exactly) in
    λ i. record { template = p.template; link = e i; env = nothing i }
