-- Templates of policies: two templates with the same id are equal in both sets, unless the id was collected as a
-- conflicting one.
use Rattle.std.specs.Prelude.{◌≡◌, ℕ, List, Bool, true, false, ◌&&◌, Option, Some, None, is_some, refl}
use Rattle.std.proofs.Common.{sym, ap, ◌∙◌}
use Rattle.std.specs.List.{find}
use Rattle.std.specs.Option.{option_eq, unwrap_or}
use Rattle.std.proofs.lemmas.Bool.{false≢true}
use Rattle.indexmap.specs.IndexSet.{insert_all}
use Rattle.cedar_ids.specs.Texts.{same_text}
use Rattle.cedar_ids.specs.laws.TextLaws.{same_text_decides}
use Rattle.cedar_body.specs.Bodies.{BodyParts}
use Rattle.cedar_body.specs.BodyEquality.{same_body}
use Rattle.cedar_body.specs.laws.BodyLaws.{same_body_decides}
use Rattle.cedar_policy.specs.Policies.{PolicyParts, policy_id}
use Rattle.cedar_policy_maps.specs.PolicySets.{SetParts, IsHeldBy, IsPolicySet, is_body_at, is_policy_at}
use Rattle.cedar_policy_maps.specs.laws.OnceLaws.{any-map, found_passes}
use Rattle.cedar_policy_merge.specs.Merge.{has_body, body_ids, is_same_at, conflicting}
use Rattle.cedar_policy_merge.specs.laws.ConflictLaws.{policy_held, same_in_orders}
use Rattle.cedar_policy_merge.specs.laws.GatherLaws.{Bodies, conflicting_bodies}
use Rattle.cedar_policy_merge.specs.laws.LookedAtLaws.{agree}
use Rattle.cedar_policy_merge.specs.laws.MergeLaws.{found_there}
use Rattle.cedar_policy_merge.specs.laws.RenamingLaws.{gathers, in_conflicting, is_in, itself, still_there}

-- Whether two bodies are equal if they have the same id, unless the id is in the list.
abbrev pub AreSameUnless : BodyParts → BodyParts → List (List ℕ) → Type 0
AreSameUnless t u ids = t.id ≡ u.id → is_in u.id ids ≡ false → t ≡ u

-- Whether this set's body with the id of `u` is `u`, unless the id is in the list.
abbrev pub StandsUnless : SetParts → BodyParts → List (List ℕ) → Type 0
StandsUnless here u ids = (t : BodyParts) → find (is_body_at u.id) here.bodies ≡ Some t → is_in u.id ids ≡ false → t ≡ u

-- Whether `StandsUnless` holds for each body of the other set.
abbrev pub AllStandUnless : SetParts → SetParts → List (List ℕ) → Type 0
AllStandUnless here other ids = (u : BodyParts) → find (is_body_at u.id) other.bodies ≡ Some u → StandsUnless here u ids

-- ---- After the scan of the bodies

option_same : {X : Type 0} (same : X → X → Bool) (a b : Option X) → ((x y : X) → same x y ≡ true → x ≡ y)
    → option_eq same a b ≡ true → a ≡ b
option_same same None None d h = refl
option_same same None (Some y) d h = absurd (cc)
option_same same (Some x) None d h = absurd (cc)
option_same same (Some x) (Some y) d h = ap Some (d x y h)

second_true : (a b : Bool) → (a && b) ≡ true → b ≡ true
second_true true b h = h
second_true false b h = absurd (false≢true h)

-- If two sets bind an id equally, they have the same body with it, or none.
same_bodies_at : (h o : SetParts) (i : List ℕ) → IsPolicySet h → IsPolicySet o → is_same_at h o i ≡ true
    → find (is_body_at i) h.bodies ≡ find (is_body_at i) o.bodies
same_bodies_at h o i x y s = option_same same_body _ _ (λ t u. (same_body_decides t u).0)
    (second_true _ _ (same_in_orders h o i x y ∙ s))

same_at : (v : Bool) (h o : SetParts) (seen : List (List ℕ)) (t u : BodyParts) → IsPolicySet h → IsPolicySet o
    → is_same_at h o u.id ≡ v
    → find (is_body_at u.id) o.bodies ≡ Some u → find (is_body_at u.id) h.bodies ≡ Some t
    → is_in u.id (insert_all same_text seen (conflicting_bodies Bodies h o o.bodies)) ≡ false → t ≡ u
same_at true h o seen t u x y e g f n = let same : Some t ≡ Some u = sym f ∙ same_bodies_at h o u.id x y e ∙ g in cc
same_at false h o seen t u x y e g f n =
    absurd (false≢true (sym n ∙ gathers u.id seen (conflicting h o (has_body h) (body_ids o))
    (in_conflicting h o (has_body h) (body_ids o) u.id (found_there (is_body_at u.id) h.bodies t f) e
    (any-map (λ (b : BodyParts). b.id) (same_text u.id) o.bodies ∙ found_there (is_body_at u.id) o.bodies u g))))

-- The ids of all unequal bodies were collected.
pub bodies_walked : (h o : SetParts) (seen : List (List ℕ)) → IsPolicySet h → IsPolicySet o
    → AllStandUnless h o (insert_all same_text seen (conflicting_bodies Bodies h o o.bodies))
bodies_walked h o seen x y u g t f n = same_at (is_same_at h o u.id) h o seen t u x y refl g f n

-- ---- When more ids are collected

not_yet : (v : Bool) (i : List ℕ) (seen xs : List (List ℕ)) → is_in i seen ≡ v → is_in i (insert_all same_text seen xs) ≡ false
    → v ≡ false
not_yet true i seen xs e n = absurd (false≢true (sym n ∙ still_there i seen xs e))
not_yet false i seen xs e n = refl

-- An id that is not collected now was not collected before.
pub not_before : (i : List ℕ) (seen xs : List (List ℕ)) → is_in i (insert_all same_text seen xs) ≡ false → is_in i seen ≡ false
not_before i seen xs n = not_yet (is_in i seen) i seen xs refl n

-- ---- Templates of policies

on_body : (l : Option (List ℕ)) (b : SetParts) (p : PolicyParts) → IsHeldBy l b p
    → find (is_body_at p.template.id) b.bodies ≡ Some p.template
on_body None b p h = h.2
on_body (Some l) b p h = h.1

-- The template of a policy is among the bodies.
template_found : (b : SetParts) (i : List ℕ) (p : PolicyParts) → IsPolicySet b
    → find (is_policy_at i) b.policies ≡ Some p → find (is_body_at p.template.id) b.bodies ≡ Some p.template
template_found b i p h f = on_body p.link b p (policy_held b i b.policies p f h.held)

-- The template of the other set's policy is in this set, unless its id was collected.
pub template_stands : (h o : SetParts) (q : PolicyParts) (old now xs : List (List ℕ)) → IsPolicySet o
    → find (is_policy_at (policy_id q)) o.policies ≡ Some q → AllStandUnless h o old → now ≡ insert_all same_text old xs
    → StandsUnless h q.template now
template_stands h o q old now xs s g a e t f n =
    a q.template (template_found o (policy_id q) q s g) t f
    (not_before q.template.id old xs (sym (ap (is_in q.template.id) e) ∙ n))

-- It is the template of this set's policy with the same id, if the templates have the same id.
pub templates_same : (h : SetParts) (p q : PolicyParts) (ids : List (List ℕ)) → IsPolicySet h
    → Some p ≡ find (is_policy_at (policy_id q)) h.policies → StandsUnless h q.template ids
    → AreSameUnless p.template q.template ids
templates_same h p q ids s f a e n =
    a p.template (ap (λ i. find (is_body_at i) h.bodies) (sym e) ∙ template_found h (policy_id q) p s (sym f)) n

-- Bodies with different ids are not equal.
pub bodies_other : (t u : BodyParts) → same_text t.id u.id ≡ false → false ≡ same_body t u
bodies_other t u e = cc

-- Bodies with the same id are equal, if the id was not collected.
pub bodies_same : (t u : BodyParts) (ids : List (List ℕ)) → AreSameUnless t u ids → same_text t.id u.id ≡ true
    → is_in u.id ids ≡ false → true ≡ same_body t u
bodies_same t u ids a e n = sym ((same_body_decides t u).1 (a ((same_text_decides t.id u.id).0 e) n))

-- A policy that is found has the id.
pub one_id : (h : SetParts) (p q : PolicyParts) → Some p ≡ find (is_policy_at (policy_id q)) h.policies
    → policy_id p ≡ policy_id q
one_id h p q f =
    sym ((same_text_decides (policy_id q) (policy_id p)).0
    (found_passes (is_policy_at (policy_id q)) h.policies p (sym f)))

-- Policies with the same id have equal link ids exactly if both or neither are links.
pub links_alike : (l m : Option (List ℕ)) (i j : List ℕ) → unwrap_or l i ≡ unwrap_or m j
    → agree (is_some l) (is_some m) ≡ option_eq same_text l m
links_alike None None i j e = refl
links_alike None (Some b) i j e = refl
links_alike (Some a) None i j e = refl
links_alike (Some a) (Some b) i j e = sym (ap (same_text a) (sym e) ∙ itself a)
