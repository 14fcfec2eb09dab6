-- A renamed static policy shares the new body with its new id.
use Rattle.std.specs.Prelude.{◌≡◌, ℕ, ◌<◌, length, List, [], ◌∷◌, Bool, true, false, not}
use Rattle.std.specs.Prelude.{Option, Some, None, is_some, IfSome, map, refl}
use Rattle.std.proofs.Common.{sym, ap, ◌∙◌, get_or}
use Rattle.std.specs.List.{find}
use Rattle.std.specs.Option.{unwrap_or}
use Rattle.std.proofs.lemmas.Bool.{false≢true}
use Rattle.cedar_ids.specs.laws.TextLaws.{same_text_decides}
use Rattle.cedar_body.specs.Bodies.{BodyParts}
use Rattle.cedar_policy.specs.Policies.{PolicyParts, policy_id, static_policy}
use Rattle.cedar_policy_maps.specs.PolicySets.{SetParts, AreOnce, IsPolicySet, IsHeldBy, AreHeld, is_body_at, is_bound}
use Rattle.std.specs.declared.rc.Rc.{Rc}
use Rattle.std.specs.declared.alloc.Global.{Global}
use Rattle.cedar_policy_maps.specs.Views.{bodies_of}
use Rattle.cedar_policy_merge.specs.laws.GatherSteps.{body_found}
use Rattle.cedar_policy_maps.specs.laws.OnceLaws.{once-filter}
use Rattle.cedar_policy_maps.specs.laws.TemplateLaws.{none-filter}
use Rattle.cedar_policy_merge.specs.Merge.{renamed_body, renamed_policy, merged_bodies}
use Rattle.cedar_policy_merge.specs.laws.MergeLaws.{Renames, AreAll, bodies_bound, body_bound, body_new, find_renamed}
use Rattle.cedar_policy_merge.specs.laws.MergeLaws.{found_there, once_renamed}

-- Whether a renamed static policy is the static policy of the new body with its new id.
abbrev pub IsOnJoined : List BodyParts → (List ℕ → List ℕ) → PolicyParts → Type 0
IsOnJoined js c p = p.link ≡ None → (t : BodyParts) → find (is_body_at (c p.template.id)) js ≡ Some t
    → static_policy t ≡ renamed_policy c p

-- Whether `p` is static and `q` is the static policy of the new body with the new id of `p`.
abbrev pub IsOnBody : Option (List ℕ) → List BodyParts → PolicyParts → PolicyParts → Type 0
IsOnBody None js p q = ⊥
IsOnBody (Some i) js p q = (p.link ≡ None) × (t : BodyParts) × (find (is_body_at i) js ≡ Some t) × (q ≡ static_policy t)

no_link : (o : Option (List ℕ)) → is_some o ≡ false → o ≡ None
no_link None e = refl
no_link (Some l) e = absurd (false≢true (sym e))

-- Then `q` is `p` renamed.
pub shared_is : (o : Option (List ℕ)) (c : List ℕ → List ℕ) (js : List BodyParts) (p q : PolicyParts)
    → unwrap_or o (policy_id p) ≡ c (policy_id p) → IsOnJoined js c p → IsOnBody o js p q → q ≡ renamed_policy c p
shared_is None c js p q e a s = absurd s
shared_is (Some i) c js p q e a s =
    s.3 ∙ a s.0 s.1 (ap (λ k. find (is_body_at k) js) (sym (e ∙ ap (λ l. c (unwrap_or l p.template.id)) s.0)) ∙ s.2)

-- The static policy of the new body satisfies `IsOnBody`.
pub made_on : (o : Option PolicyParts) (i : List ℕ) (js : List BodyParts) (p : PolicyParts) (t : BodyParts)
    → is_some p.link ≡ false → find (is_body_at i) js ≡ Some t → IfSome o (λ q. q ≡ static_policy t)
    → IfSome o (IsOnBody (Some i) js p)
made_on None i js p t l f e = tt
made_on (Some q) i js p t l f e = (no_link p.link l, t, f, e)

-- No new body has an id that this set uses.
none_joined : (h o : SetParts) (c : List ℕ → List ℕ) (i : List ℕ) (t : BodyParts) → is_bound h i ≡ true
    → find (is_body_at i) (merged_bodies h c o.bodies) ≡ Some t → ⊥
none_joined h o c i t b f =
    false≢true
    (sym (none-filter (λ (t : BodyParts). not (is_bound h t.id)) (is_body_at i) (map (renamed_body c) o.bodies)
    (λ t e. ap (λ k. not (is_bound h k)) (sym ((same_text_decides i t.id).0 e)) ∙ ap not b))
    ∙ found_there (is_body_at i) (merged_bodies h c o.bodies) t f)

this : {t u : BodyParts} → Some t ≡ Some u → t ≡ u
this e = cc

on_joined_by : (l : Option (List ℕ)) (v : Bool) (h o : SetParts) (c : List ℕ → List ℕ) (p : PolicyParts) (t : BodyParts)
    → Renames h o c → IsHeldBy l o p → l ≡ None → is_bound h (c p.template.id) ≡ v
    → find (is_body_at (c p.template.id)) (merged_bodies h c o.bodies) ≡ Some t → static_policy t ≡ renamed_policy c p
on_joined_by (Some l) v h o c p t r k n b f = absurd (cc)
on_joined_by None true h o c p t r k n b f = absurd (none_joined h o c (c p.template.id) t b f)
on_joined_by None false h o c p t r k n b f =
    ap static_policy (this (sym f
    ∙ find_renamed h o c (λ (t : BodyParts). t.id) (renamed_body c) (λ t. not (is_bound h t.id)) r (body_new c)
    p.template.id (body_bound o p.template.id p.template k.2) p.template (ap not b) o.bodies (bodies_bound o) k.2))
    ∙ ap (renamed_policy c) (sym k.0)

on_new_body : (h o : SetParts) (c : List ℕ → List ℕ) (p : PolicyParts) → Renames h o c → IsHeldBy p.link o p
    → IsOnJoined (merged_bodies h c o.bodies) c p
on_new_body h o c p r k n t f = on_joined_by p.link (is_bound h (c p.template.id)) h o c p t r k n refl f

-- Each policy of the other set satisfies `IsOnJoined`.
pub all_on_joined : (h o : SetParts) (c : List ℕ → List ℕ) (ps : List PolicyParts) → Renames h o c → AreHeld o ps
    → AreAll (IsOnJoined (merged_bodies h c o.bodies) c) ps
all_on_joined h o c [] r k = tt
all_on_joined h o c (p ∷ ps) r k = (on_new_body h o c p r k.0, all_on_joined h o c ps r k.1)

-- The new bodies have different ids.
pub once_joined : (h o : SetParts) (c : List ℕ → List ℕ) → Renames h o c → IsPolicySet o
    → AreOnce (λ (t : BodyParts). t.id) (merged_bodies h c o.bodies)
once_joined h o c r y =
    once-filter (λ (t : BodyParts). t.id) (λ t. not (is_bound h t.id)) (map (renamed_body c) o.bodies)
    (once_renamed h o c (λ (t : BodyParts). t.id) (renamed_body c) r (body_new c) o.bodies (bodies_bound o)
    y.bodies_once)

-- The body at a place is found under its id.
pub found_at : (ts : List (Rc BodyParts Global)) (k : ℕ) (t : Rc BodyParts Global) (i : List ℕ)
    → AreOnce (λ (b : BodyParts). b.id) (bodies_of ts) → k < length ts → t ≡ get_or ts k t → t.value.id ≡ i
    → find (is_body_at i) (bodies_of ts) ≡ Some t.value
found_at ts k t i h l e q =
    ap (λ j. find (is_body_at j) (bodies_of ts)) (sym q)
    ∙ body_found (record { bodies = bodies_of ts; policies = [] }) ts k t refl h l e
