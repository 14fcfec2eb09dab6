-- The maps of a policy set can insert the new bodies and policies of a merge.
use Rattle.std.specs.Prelude.{◌≡◌, ℕ, List, [], ◌∷◌, ◌++◌, Bool, true, false, not, ◌||◌, Option, Some}
use Rattle.std.specs.Prelude.{None, refl, map}
use Rattle.std.proofs.Common.{cond, sym, ap, ◌∙◌}
use Rattle.std.specs.List.{filter, find, list_any}
use Rattle.std.proofs.lemmas.Bool.{false≢true}
use Rattle.std.proofs.lemmas.List.{map-append, append_assoc}
use Rattle.std.proofs.lemmas.List.Elements.{filter-append}
use Rattle.cedar_ids.specs.Texts.{same_text}
use Rattle.cedar_ids.specs.laws.TextLaws.{same_text_decides}
use Rattle.cedar_body.specs.Bodies.{BodyParts}
use Rattle.cedar_policy.specs.Policies.{PolicyParts, policy_id}
use Rattle.cedar_policy_maps.specs.PolicySets.{SetParts, is_bound, is_body_at, is_policy_at, IsHeldBy, AreHeld}
use Rattle.cedar_policy_maps.specs.PolicySets.{IsPolicySet}
use Rattle.cedar_policy_maps.specs.Lists.{is_on}
use Rattle.cedar_policy_merge.specs.Merge.{renamed_body, renamed_policy, merged_bodies, merged_policies}
use Rattle.cedar_policy_maps.specs.laws.SetLaws.{no_body_at, no_policy_at}
use Rattle.cedar_policy_maps.specs.BulkInsert.{HaveIdsFreeOf, AreOnly, AreUnused, CanBulkInsert}
use Rattle.cedar_policy_maps.specs.laws.MapLaws.{none_on_it}
use Rattle.cedar_policy_merge.specs.laws.MergeLaws.{Renames, AreAll, bodies_bound, body_bound, body_new, found_there}
use Rattle.cedar_policy_merge.specs.laws.MergeLaws.{any_renamed, once_renamed, merged_is_set}
use Rattle.cedar_policy_maps.specs.laws.TemplateLaws.{none-filter}
use Rattle.cedar_policy_maps.specs.laws.OnceLaws.{once-filter, any-filter_none, find-filter, find-unless, none_is}

abbrev body_id : BodyParts → List ℕ
body_id t = t.id

abbrev own_body : PolicyParts → List ℕ
own_body p = p.template.id

-- The existing bodies of a merge: the bodies of a list under their new ids, whose ids this set uses.
abbrev pub standing_bodies : SetParts → (List ℕ → List ℕ) → List BodyParts → List BodyParts
standing_bodies here c ts = filter (λ t. is_bound here t.id) (map (renamed_body c) ts)

-- ---- One body after another

standing_more : (h : SetParts) (c : List ℕ → List ℕ) (xs : List BodyParts) (x : BodyParts)
    → standing_bodies h c (xs ++ x ∷ []) ≡ standing_bodies h c xs ++ standing_bodies h c (x ∷ [])
standing_more h c xs x =
    ap (filter (λ (t : BodyParts). is_bound h t.id)) (map-append (renamed_body c) xs (x ∷ []))
    ∙ filter-append (λ (t : BodyParts). is_bound h t.id) (map (renamed_body c) xs) (map (renamed_body c) (x ∷ []))

pub standing_body_step : (h : SetParts) (c : List ℕ → List ℕ) (ts : List BodyParts) (t : BodyParts)
    (old now new : List BodyParts) → now ≡ old ++ standing_bodies h c ts → new ≡ now ++ standing_bodies h c (t ∷ [])
    → new ≡ old ++ standing_bodies h c (ts ++ t ∷ [])
standing_body_step h c ts t old now new n m =
    m ∙ ap (λ x. x ++ standing_bodies h c (t ∷ [])) n
    ∙ append_assoc old (standing_bodies h c ts) (standing_bodies h c (t ∷ []))
    ∙ ap (λ x. old ++ x) (sym (standing_more h c ts t))

-- ---- The conditions of the insertion

bare_at : (v : Bool) (h : SetParts) (t : BodyParts) (ts : List BodyParts) → IsPolicySet h → is_bound h t.id ≡ v
    → AreUnused ts h.policies → AreUnused (cond (not v) (t ∷ ts) ts) h.policies
bare_at true h t ts x e r = r
bare_at false h t ts x e r = (none_on_it h t.id h.policies (no_body_at h t.id e) x.held, r)

all_bare : (h : SetParts) (ts : List BodyParts) → IsPolicySet h
    → AreUnused (filter (λ t. not (is_bound h t.id)) ts) h.policies
all_bare h [] x = tt
all_bare h (t ∷ ts) x = bare_at (is_bound h t.id) h t (filter (λ t. not (is_bound h t.id)) ts) x refl (all_bare h ts x)

-- A body whose id this set uses is among the existing bodies.
unfiltered : (h : SetParts) (i : List ℕ) (ts : List BodyParts) → is_bound h i ≡ true
    → list_any (is_body_at i) (filter (λ t. is_bound h t.id) ts) ≡ false → list_any (is_body_at i) ts ≡ false
unfiltered h i ts b n =
    none_is (is_body_at i) ts
    (sym (find-filter (λ (t : BodyParts). is_bound h t.id) (is_body_at i) ts
    (λ t e. ap (is_bound h) (sym ((same_text_decides i t.id).0 e)) ∙ b))
    ∙ find-unless (is_body_at i) (filter (λ t. is_bound h t.id) ts) n)

off_at : (v : Bool) (h o : SetParts) (c : List ℕ → List ℕ) (i : List ℕ) (t : BodyParts) → Renames h o c
    → is_bound h i ≡ true → list_any (is_body_at i) (standing_bodies h c o.bodies) ≡ false →
    find (is_body_at t.id) o.bodies ≡ Some t → same_text i (c t.id) ≡ v → v ≡ false
off_at false h o c i t r b n f e = refl
off_at true h o c i t r b n f e =
    absurd
    (false≢true
    (sym (unfiltered h i (map (renamed_body c) o.bodies) b n)
    ∙ ap (λ k. list_any (is_body_at k) (map (renamed_body c) o.bodies)) ((same_text_decides i (c t.id)).0 e)
    ∙ any_renamed h o c body_id (renamed_body c) r (body_new c) t.id (body_bound o t.id t f) o.bodies (bodies_bound o)
    ∙ found_there (is_body_at t.id) o.bodies t f))

held_body : (l : Option (List ℕ)) (b : SetParts) (p : PolicyParts) → IsHeldBy l b p
    → find (is_body_at p.template.id) b.bodies ≡ Some p.template
held_body None b p k = k.2
held_body (Some l) b p k = k.1

no_more : (a b : Bool) → a ≡ false → b ≡ false → (a || b) ≡ false
no_more a b p q = cc

none_renamed_on : (h o : SetParts) (c : List ℕ → List ℕ) (i : List ℕ) (ps : List PolicyParts) → Renames h o c
    → is_bound h i ≡ true → list_any (is_body_at i) (standing_bodies h c o.bodies) ≡ false → AreHeld o ps →
    list_any (is_on i) (map (renamed_policy c) ps) ≡ false
none_renamed_on h o c i [] r b n k = refl
none_renamed_on h o c i (p ∷ ps) r b n k =
    no_more _ _ (off_at (same_text i (c p.template.id)) h o c i p.template r b n (held_body p.link o p k.0) refl)
    (none_renamed_on h o c i ps r b n k.1)

-- A new policy uses a body of this set only if the body is an existing one of the merge.
all_only : (h o : SetParts) (c : List ℕ → List ℕ) (ts : List BodyParts) → Renames h o c → IsPolicySet o
    → AreAll (λ (t : BodyParts). is_bound h t.id ≡ true) ts →
    AreOnly ts (standing_bodies h c o.bodies) (merged_policies h c o.policies)
all_only h o c [] r y a = tt
all_only h o c (t ∷ ts) r y a = (
  (λ n. any-filter_none (λ p. not (is_bound h (policy_id p))) (is_on t.id) (map (renamed_policy c) o.policies)
      (none_renamed_on h o c t.id o.policies r a.0 n y.held)),
  all_only h o c ts r y a.1,
)

-- No new policy has the id of a body of this set, and no policy of this set has the id of a new body.
bound_fails : (h : SetParts) (i : List ℕ) (p : PolicyParts) → is_bound h i ≡ true → is_policy_at i p ≡ true
    → not (is_bound h (policy_id p)) ≡ false
bound_fails h i p b e = ap (λ k. not (is_bound h k)) (sym ((same_text_decides i (policy_id p)).0 e)) ∙ ap not b

all_beside : (h : SetParts) (ts : List BodyParts) (ps : List PolicyParts)
    → AreAll (λ (t : BodyParts). is_bound h t.id ≡ true) ts
    → HaveIdsFreeOf ts (filter (λ p. not (is_bound h (policy_id p))) ps)
all_beside h [] ps a = tt
all_beside h (t ∷ ts) ps a = (
  none-filter (λ p. not (is_bound h (policy_id p))) (is_policy_at t.id) ps
      (λ p e. bound_fails h t.id p a.0 e),
  all_beside h ts ps a.1,
)

behind_at : (v : Bool) (h : SetParts) (t : BodyParts) (ts : List BodyParts) → is_bound h t.id ≡ v
    → HaveIdsFreeOf ts h.policies → HaveIdsFreeOf (cond (not v) (t ∷ ts) ts) h.policies
behind_at true h t ts e r = r
behind_at false h t ts e r = (no_policy_at h t.id e, r)

all_behind : (h : SetParts) (ts : List BodyParts) → HaveIdsFreeOf (filter (λ t. not (is_bound h t.id)) ts) h.policies
all_behind h [] = tt
all_behind h (t ∷ ts) = behind_at (is_bound h t.id) h t (filter (λ t. not (is_bound h t.id)) ts) refl (all_behind h ts)

pub takes_in : (h o : SetParts) (c : List ℕ → List ℕ) → Renames h o c → IsPolicySet h → IsPolicySet o
    → CanBulkInsert h (standing_bodies h c o.bodies) (merged_bodies h c o.bodies) (merged_policies h c o.policies)
takes_in h o c r x y = record {
  policy_set = merged_is_set h o c r x y;
  beside = all_beside h h.bodies (map (renamed_policy c) o.policies) (bodies_bound h);
  behind = all_behind h (map (renamed_body c) o.bodies);
  once = once-filter body_id (λ t. is_bound h t.id) (map (renamed_body c) o.bodies)
      (once_renamed h o c body_id (renamed_body c) r (body_new c) o.bodies (bodies_bound o) y.bodies_once);
  only = all_only h o c h.bodies r y (bodies_bound h);
  bare = all_bare h (map (renamed_body c) o.bodies) x;
}
