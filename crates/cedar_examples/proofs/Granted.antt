-- A link, as a statement on its template.
use Rattle.std.specs.Prelude.{◌≡◌, ℕ, List, [], ◌∷◌, Option, Some, None, Result, Ok, Err, refl}
use Rattle.std.proofs.Common.{subst}
use Rattle.cedar_ids.specs.Uid.{UidParts}
use Rattle.cedar_terms.specs.declared.slot.SlotId.{SlotId}
use Rattle.cedar_binding.specs.Bindings.{EnvParts, BindsExactly, unbound, extra, wrong_action}
use Rattle.cedar_binding.specs.laws.Fits.{fits}
use Rattle.cedar_body.specs.Bodies.{BodyParts, body_slots}
use Rattle.cedar_policy_maps.specs.PolicySets.{SetParts, Binding, Static, Template, Link, bound_at}
use Rattle.cedar_policy_set.specs.Steps.{Refusal, fitting, link_at, link_step, unlinked_at}
use Rattle.cedar_policy_set.specs.laws.LinkLaws.{link_undone}

-- Bindings that fit have no unbound and no extra slot.
none_left : (us xs : List SlotId) (o : Option UidParts) (r : Result SetParts Refusal) (c : SetParts)
    → fitting us xs o r ≡ Ok c → (us ≡ []) × (xs ≡ [])
none_left [] [] None r c h = (refl, refl)
none_left [] [] (Some u) r c h = absurd (cc)
none_left [] (x ∷ xs) o r c h = absurd (cc)
none_left (u ∷ us) [] o r c h = absurd (cc)
none_left (u ∷ us) (x ∷ xs) o r c h = absurd (cc)

-- An id that can be unlinked is the id of a link.
bound_link : (o : Option Binding) (l : List ℕ) (x : Binding) → unlinked_at o l ≡ Ok x → o ≡ Some x
bound_link None l x h = absurd (cc)
bound_link (Some (Static t)) l x h = absurd (cc)
bound_link (Some (Template t)) l x h = absurd (cc)
bound_link (Some (Link k t e)) l x h = cc

-- The id of a link is the id of a link of the given template, and the link binds exactly the template's slots.
pub granted : (b c : SetParts) (i l : List ℕ) (e : EnvParts) → link_step b i l e ≡ Ok c →
    (t : BodyParts) × (bound_at b i ≡ Some (Template t)) × (bound_at c l ≡ Some (Link l t e))
    × BindsExactly (body_slots t) e
granted b c i l e step =
    let undone = link_undone b c i l e step in
    let t = undone.0 in
    let at : link_at (Some (Template t)) b i l e ≡ Ok c = subst (λ o. link_at o b i l e ≡ Ok c) undone.1 step in
    let none = none_left (unbound (body_slots t) e) (extra (body_slots t) e) (wrong_action e) _ c at in
    (t, undone.1, bound_link (bound_at c l) l (Link l t e) undone.2, fits (body_slots t) e none.0 none.1)
