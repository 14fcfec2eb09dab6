-- The steps of calls, according to the binding of the id.
use Rattle.std.specs.Prelude.{◌≡◌, ℕ, List, [], ◌∷◌, Option, Some, None, refl, Result, Ok, Err}
use Rattle.std.proofs.Common.{sym, ap, ◌∙◌}
use Rattle.std.specs.List.{find}
use Rattle.std.specs.Option.{unwrap_or}
use Rattle.cedar_ids.specs.Uid.{UidParts}
use Rattle.cedar_ids.specs.UidOf.{uid_parts}
use Rattle.cedar_ids.specs.laws.TextLaws.{same_text_decides}
use Rattle.cedar_body.specs.Bodies.{BodyParts}
use Rattle.cedar_binding.specs.Bindings.{EnvParts, FitsSlots, unbound, extra, wrong_action}
use Rattle.cedar_binding.specs.Checks.{IsUnfit}
use Rattle.cedar_binding.specs.declared.err.LinkingError.{LinkingError}
use Rattle.cedar_binding.specs.declared.err.LinkingError.TheVariants as links
use Rattle.cedar_binding.specs.laws.Fits.{fits, nothing_left_over}
use Rattle.cedar_terms.specs.declared.slot.SlotId.{SlotId}
use Rattle.cedar_policy.specs.Policies.{PolicyParts, policy_id}
use Rattle.cedar_policy_maps.specs.PolicySets.{SetParts, Binding, Static, Template, Link, bound_at, is_body_at}
use Rattle.cedar_policy_set.specs.Refusals.{IsRefusal, linking_error_of}
use Rattle.cedar_policy_set.specs.Steps.{Refusal, arity, no_such_template, add_by, add_link_at, fitting, link_at}
use Rattle.cedar_policy_set.specs.Steps.{linked_at, get_linked_step}
use Rattle.cedar_policy_maps.specs.Lists.{ids_in}
use Rattle.cedar_policy_set.specs.laws.Standing.{HasNoTemplate, Stands}
use Rattle.cedar_policy_maps.specs.laws.SetLaws.{template_at}
use Rattle.cedar_policy_maps.specs.laws.OnceLaws.{found_passes}

-- The step of adding a link is `add_link_at` for the binding of its template's id.
pub added_by : (o : Option (List ℕ)) (b : SetParts) (p : PolicyParts) → o ≡ p.link → (o ≡ None → ⊥)
    → add_by o b p ≡ add_link_at (bound_at b p.template.id) b (policy_id p) p
added_by None b p e n = absurd (n refl)
added_by (Some l) b p e n = ap (λ i. add_link_at (bound_at b p.template.id) b i p)
    (sym (ap (λ o. unwrap_or o p.template.id) (sym e)))

-- A template of a set has the id under which it is found.
pub stands : (b : SetParts) (i : List ℕ) (t : BodyParts) → bound_at b i ≡ Some (Template t) → Stands b t
stands b i t e =
    let f = template_at b i t e in
    let same : i ≡ t.id = (same_text_decides i t.id).0 (found_passes (is_body_at i) b.bodies t f.1) in
    ap (bound_at b) (sym same) ∙ e

-- Linking fails with `no_such_template` if the id does not belong to a template.
pub no_template_step : (x : Option Binding) (b : SetParts) (i l : List ℕ) (e : EnvParts) → HasNoTemplate x
    → link_at x b i l e ≡ Err (no_such_template i)
no_template_step None b i l e h = refl
no_template_step (Some (Static t)) b i l e h = refl
no_template_step (Some (Template t)) b i l e h = absurd h
no_template_step (Some (Link k t v)) b i l e h = refl

-- Bindings that fit leave the step as it is.
pub fit_goes_on : (slots : List SlotId) (e : EnvParts) (r : Result SetParts Refusal) → FitsSlots slots e
    → fitting (unbound slots e) (extra slots e) (wrong_action e) r ≡ r
fit_goes_on slots e r h = let n = nothing_left_over slots e h.exactly in (λ i. fitting (n.0 i) (n.1 i) (h.action i) r)

unfit : (us xs : List SlotId) (o : Option UidParts) (r : Result SetParts Refusal) → ((us ≡ []) → (xs ≡ []) → ⊥)
    → fitting us xs o r ≡ Err (arity us xs)
unfit [] [] o r h = absurd (h refl refl)
unfit [] (x ∷ xs) o r h = refl
unfit (u ∷ us) [] o r h = refl
unfit (u ∷ us) (x ∷ xs) o r h = refl

-- If the bindings do not fit, the step fails as the error of the check reports.
pub unfit_is_refused : (d : LinkingError) (slots : List SlotId) (e : EnvParts) (r : Result SetParts Refusal)
    → IsUnfit d slots e → IsRefusal (linking_error_of d) (fitting (unbound slots e) (extra slots e) (wrong_action e) r)
unfit_is_refused (links.ArityError u x) slots e r h =
    unfit (unbound slots e) (extra slots e) (wrong_action e) r (λ p q. h.0 (fits slots e p q))
    ∙ (λ i. Err (arity (sym h.1 i) (sym h.2 i)))
unfit_is_refused (links.NotAnAction u) slots e r h = let n = nothing_left_over slots e h.0 in
    (λ i. fitting (n.0 i) (n.1 i) (h.1 i) r)
unfit_is_refused (links.NoSuchTemplate i) slots e r h = absurd h
unfit_is_refused (links.PolicyIdConflict i) slots e r h = absurd h
unfit_is_refused links.Memory slots e r h = tt

none_wrong : (u : UidParts) (o : Option UidParts) → o ≡ None → o ≡ Some u → ⊥
none_wrong u o p q = cc

-- If the bindings fit, the check can only fail because of an allocation failure.
pub fit_is_not_refused : (d : LinkingError) (slots : List SlotId) (e : EnvParts) (step : Result SetParts Refusal)
    → FitsSlots slots e → IsUnfit d slots e → IsRefusal (linking_error_of d) step
fit_is_not_refused (links.ArityError u x) slots e step f h = absurd (h.0 f.exactly)
fit_is_not_refused (links.NotAnAction u) slots e step f h =
    absurd (none_wrong (uid_parts u) (wrong_action e) f.action h.1)
fit_is_not_refused (links.NoSuchTemplate i) slots e step f h = absurd h
fit_is_not_refused (links.PolicyIdConflict i) slots e step f h = absurd h
fit_is_not_refused links.Memory slots e step f h = tt

-- If a body has the id, the listed ids are the ids of the policies that use it.
pub listed : (b : SetParts) (i : List ℕ) (t : BodyParts) → Some t ≡ find (is_body_at i) b.bodies
    → get_linked_step b i ≡ Ok (ids_in t.id b.policies)
listed b i t e =
    let same : i ≡ t.id = (same_text_decides i t.id).0 (found_passes (is_body_at i) b.bodies t (sym e)) in
    (λ j. linked_at (sym e j) b i) ∙ ap (λ k. Ok (ids_in k b.policies)) same
