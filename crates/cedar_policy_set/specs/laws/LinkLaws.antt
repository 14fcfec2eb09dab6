-- The effect of linking: the new link is the last policy, and its id was free before.
use Rattle.std.specs.Prelude.{◌≡◌, ℕ, ◌<◌, length, List, [], ◌∷◌, ◌++◌, Bool, true, false, Option, Some, None, Result}
use Rattle.std.specs.Prelude.{Ok, Err, OnOk, refl, if◌then◌else◌, ◌||◌}
use Rattle.std.proofs.Common.{sym, ap, ◌∙◌, arith, subst, cond}
use Rattle.std.specs.List.{find, list_any}
use Rattle.std.proofs.lemmas.Bool.{or_parts}
use Rattle.cedar_ids.specs.Uid.{UidParts}
use Rattle.cedar_ids.specs.laws.TextLaws.{same_text_equiv}
use Rattle.cedar_terms.specs.declared.slot.SlotId.{SlotId}
use Rattle.cedar_body.specs.Bodies.{BodyParts, body_slots}
use Rattle.cedar_binding.specs.Bindings.{EnvParts, unbound, extra, wrong_action}
use Rattle.cedar_policy.specs.Policies.{PolicyParts}
use Rattle.cedar_policy_maps.specs.PolicySets.{SetParts, Binding, Static, Template, Link, bound_at, binding_from}
use Rattle.cedar_policy_maps.specs.PolicySets.{is_bound}
use Rattle.cedar_policy_maps.specs.PolicySets.{is_body_at, is_policy_at, with_policy, without_id}
use Rattle.cedar_policy_set.specs.Steps.{Refusal, id_conflict, fitting, link_onto, link_at, link_step, unlinked_at}
use Rattle.cedar_policy_set.specs.Steps.{unlink_step, UnlinksTo}
use Rattle.cedar_binding.specs.declared.err.LinkingError.{LinkingError}
use Rattle.cedar_policy_set.specs.Refusals.{Steps, linking_error_of}
use Rattle.cedar_policy_maps.specs.laws.SetLaws.{undone}

abbrev link_of : BodyParts → List ℕ → EnvParts → PolicyParts
link_of t l e = record { template = t; link = Some l; env = e }

fitted : (us xs : List SlotId) (o : Option UidParts) (r : Result SetParts Refusal) (c : SetParts)
    → fitting us xs o r ≡ Ok c → r ≡ Ok c
fitted [] [] None r c h = h
fitted [] [] (Some u) r c h = absurd (cc)
fitted [] (x ∷ xs) o r c h = absurd (cc)
fitted (u ∷ us) [] o r c h = absurd (cc)
fitted (u ∷ us) (x ∷ xs) o r c h = absurd (cc)

freed : (v : Bool) (b c : SetParts) (l : List ℕ) (p : PolicyParts)
    → (if v then Err (id_conflict l) else Ok (with_policy b p)) ≡ Ok c → (v ≡ false) × (with_policy b p ≡ c)
freed true b c l p h = absurd (cc)
freed false b c l p h = (refl, cc)

-- Whether set `c` is set `b` with a link appended, whose id was free and whose template is the binding `x`.
abbrev Joined : Option Binding → SetParts → SetParts → List ℕ → EnvParts → Type 0
Joined x b c l e = (t : BodyParts) × (x ≡ Some (Template t)) × (is_bound b l ≡ false)
    × (with_policy b (link_of t l e) ≡ c)

joined : (x : Option Binding) (b c : SetParts) (i l : List ℕ) (e : EnvParts) → link_at x b i l e ≡ Ok c
    → Joined x b c l e
joined None b c i l e h = absurd (cc)
joined (Some (Static t)) b c i l e h = absurd (cc)
joined (Some (Link k t v)) b c i l e h = absurd (cc)
joined (Some (Template t)) b c i l e h =
    let f = freed (is_bound b l) b c l (link_of t l e)
    (fitted (unbound (body_slots t) e) (extra (body_slots t) e) (wrong_action e) _ c h) in
    (t, refl, f.0, f.1)

found_at : (v : Bool) (q : PolicyParts → Bool) (x p : PolicyParts) (ps : List PolicyParts)
    → (v || list_any q ps) ≡ false →
    (list_any q ps ≡ false → find q (ps ++ p ∷ []) ≡ Some p) → cond v (Some x) (find q (ps ++ p ∷ [])) ≡ Some p
found_at true q x p ps n r = absurd (cc)
found_at false q x p ps n r = r n

-- The last element is found if it is the only one that passes.
found_last : (q : PolicyParts → Bool) (ps : List PolicyParts) (p : PolicyParts) → list_any q ps ≡ false → q p ≡ true
    → find q (ps ++ p ∷ []) ≡ Some p
found_last q [] p n t = ap (λ v. cond v (Some p) None) t
found_last q (x ∷ ps) p n t = found_at (q x) q x p ps n (λ m. found_last q ps p m t)

unlinked : (b : SetParts) (t : BodyParts) (l : List ℕ) (e : EnvParts) → is_bound b l ≡ false
    → unlink_step (with_policy b (link_of t l e)) l ≡ Ok (Link l t e)
unlinked b t l e n =
    let f = found_last (is_policy_at l) b.policies (link_of t l e)
    (or_parts (list_any (is_policy_at l) b.policies) (list_any (is_body_at l) b.bodies) n).0
    (same_text_equiv.refl l) in
    ap (λ o. unlinked_at (binding_from o (find (is_body_at l) b.bodies)) l) f

-- Unlinking a new link restores the former policy set.
pub link_undone : (b c : SetParts) (i l : List ℕ) (e : EnvParts) → link_step b i l e ≡ Ok c → UnlinksTo b i l e c
link_undone b c i l e h =
    let j = joined (bound_at b i) b c i l e h in (
      j.0,
      j.1,
      ap (λ d. unlink_step d l) (sym j.3) ∙ unlinked b j.0 l e j.2,
      ap (λ d. without_id d l) (sym j.3) ∙ undone b (link_of j.0 l e) j.2,
    )

pushed : (ps : List PolicyParts) (p : PolicyParts) → 0 < length (ps ++ p ∷ [])
pushed [] p = omega arith
pushed (q ∷ qs) p = omega arith

-- After linking there is a policy.
pub link_there : (b c : SetParts) (i l : List ℕ) (e : EnvParts) → link_step b i l e ≡ Ok c → 0 < length c.policies
link_there b c i l e h =
    let j = joined (bound_at b i) b c i l e h in
    subst (λ (d : SetParts). 0 < length d.policies) j.3 (pushed b.policies (link_of j.0 l e))

-- After linking a template of the set there is a policy.
pub link_of_there : {A : Type 0} (r : Result A LinkingError) (b c : SetParts) (i l : List ℕ) (e : EnvParts) (t :
    BodyParts) → bound_at b i ≡ Some (Template t) → Steps linking_error_of r b c (link_onto t b l e) →
    OnOk r (0 < length c.policies)
link_of_there (Ok a) b c i l e t q h = link_there b c i l e (ap (λ x. link_at x b i l e) q ∙ h)
link_of_there (Err d) b c i l e t q h = tt
