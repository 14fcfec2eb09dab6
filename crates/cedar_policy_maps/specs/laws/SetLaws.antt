-- Additions and removals preserve the invariant of policy sets.
use Rattle.std.specs.Prelude.{◌≡◌, ℕ, List, [], ◌∷◌, ◌++◌, Bool, true, false, not, ◌||◌, ◌&&◌, Option, Some, None}
use Rattle.std.specs.Prelude.{MatchOption, refl, is_some}
use Rattle.std.proofs.Common.{sym, ap, ◌∙◌, cond}
use Rattle.std.specs.List.{filter, find, list_any}
use Rattle.std.specs.Option.{unwrap_or}
use Rattle.std.proofs.lemmas.Bool.{or_parts}
use Rattle.std.proofs.lemmas.List.{append-nil}
use Rattle.std.proofs.lemmas.List.Folds.{list_any-append}
use Rattle.std.proofs.lemmas.List.Elements.{filter-append}
use Rattle.cedar_ids.specs.Texts.{same_text}
use Rattle.cedar_ids.specs.laws.TextLaws.{same_text_equiv, same_text_decides}
use Rattle.cedar_body.specs.Bodies.{BodyParts, body_slots}
use Rattle.cedar_body.specs.BodyEquality.{same_body}
use Rattle.cedar_body.specs.laws.BodyLaws.{same_body_decides}
use Rattle.cedar_binding.specs.Bindings.{BindsExactly, FitsSlots, wrong_action}
use Rattle.cedar_policy.specs.Policies.{PolicyParts, policy_id, static_policy}
use Rattle.cedar_policy_maps.specs.PolicySets.{SetParts, Template, empty_set, HasDistinctId, bound_at, binding_from, is_bound}
use Rattle.cedar_policy_maps.specs.PolicySets.{is_body_at, is_policy_at, links_to, has_links, policy_binding}
use Rattle.cedar_policy_maps.specs.PolicySets.{binding_by, template_bound}
use Rattle.cedar_policy_maps.specs.PolicySets.{with_template, with_policy, with_body_and_policy, without_id, IsHeldBy, IsHeld}
use Rattle.cedar_policy_maps.specs.PolicySets.{AreHeld}
use Rattle.cedar_policy_maps.specs.PolicySets.{IsPolicySet}
use Rattle.cedar_policy_maps.specs.Insertions.{CanInsert, CanInsertBy, CanInsertWithBody, CanInsertWithBodyBy}
use Rattle.cedar_policy_maps.specs.laws.OnceLaws.{once_more, once-push, once-filter, filter_none, any-filter_none}
use Rattle.cedar_policy_maps.specs.laws.OnceLaws.{none_is, find-unless, find-push, find-filter}

abbrev body_id : BodyParts → List ℕ
body_id t = t.id

-- The id of an existing body differs from an id that no body has.
apart : (ts : List BodyParts) (i j : List ℕ) (t : BodyParts) → find (is_body_at i) ts ≡ Some t
    → list_any (is_body_at j) ts ≡ false → (v : Bool) → same_text i j ≡ v → v ≡ false
apart ts i j t f n true e =
    let none : find (is_body_at i) ts ≡ None =
    find-unless (is_body_at i) ts (ap (λ k. list_any (is_body_at k) ts) ((same_text_decides i j).0 e) ∙ n) in
    absurd (cc (none, f))
apart ts i j t f n false e = refl

pub ids_apart : (ts : List BodyParts) (i j : List ℕ) (t : BodyParts) → find (is_body_at i) ts ≡ Some t
    → list_any (is_body_at j) ts ≡ false → same_text i j ≡ false
ids_apart ts i j t f n = apart ts i j t f n (same_text i j) refl

turned : (i j : List ℕ) → same_text i j ≡ false → same_text j i ≡ false
turned i j h = same_text_equiv.symm j i ∙ h

-- No policy has an unused id.
pub no_policy_at : (b : SetParts) (i : List ℕ) → is_bound b i ≡ false → list_any (is_policy_at i) b.policies ≡ false
no_policy_at b i h = (or_parts _ _ h).0

pub no_body_at : (b : SetParts) (i : List ℕ) → is_bound b i ≡ false → list_any (is_body_at i) b.bodies ≡ false
no_body_at b i h = (or_parts _ _ h).1

one_more_body : (i : List ℕ) (ts : List BodyParts) (t : BodyParts) → list_any (is_body_at i) ts ≡ false
    → same_text i t.id ≡ false → list_any (is_body_at i) (ts ++ t ∷ []) ≡ false
one_more_body i ts t n e = list_any-append (is_body_at i) ts (t ∷ []) ∙ once_more _ _ false n e

one_more_policy : (i : List ℕ) (ps : List PolicyParts) (p : PolicyParts) → list_any (is_policy_at i) ps ≡ false
    → same_text i (policy_id p) ≡ false → list_any (is_policy_at i) (ps ++ p ∷ []) ≡ false
one_more_policy i ps p n e = list_any-append (is_policy_at i) ps (p ∷ []) ∙ once_more _ _ false n e

-- ---- Additions

held_with_template : (o : Option (List ℕ)) (b : SetParts) (t : BodyParts) (p : PolicyParts)
    → same_text t.id (unwrap_or o p.template.id) ≡ false → IsHeldBy o b p → IsHeldBy o (with_template b t) p
held_with_template None b t p a h = (h.0, h.1, find-push (is_body_at p.template.id) b.bodies t p.template h.2)
held_with_template (Some l) b t p a h = (
  one_more_body l b.bodies t h.0 (turned t.id l a),
  find-push
      (is_body_at p.template.id) b.bodies t p.template h.1,
  h.2,
  h.3,
)

held_with_policy : (o : Option (List ℕ)) (b : SetParts) (q p : PolicyParts)
    → list_any (is_body_at (policy_id q)) b.bodies ≡ false → IsHeldBy o b p → IsHeldBy o (with_policy b q) p
held_with_policy None b q p n h = h
held_with_policy (Some l) b q p n h = (
  h.0,
  h.1,
  one_more_policy p.template.id b.policies q h.2
      (ids_apart b.bodies p.template.id (policy_id q) p.template h.1 n),
  h.3,
)

all_with_template : (b : SetParts) (t : BodyParts) (ps : List PolicyParts) → list_any (is_policy_at t.id) ps ≡ false
    → AreHeld b ps → AreHeld (with_template b t) ps
all_with_template b t [] n h = tt
all_with_template b t (p ∷ ps) n h = (
  held_with_template p.link b t p (or_parts _ _ n).0 h.0,
  all_with_template b t ps
      (or_parts _ _ n).1 h.1,
)

all_with_policy : (b : SetParts) (q : PolicyParts) (ps : List PolicyParts)
    → list_any (is_body_at (policy_id q)) b.bodies ≡ false → AreHeld b ps → AreHeld (with_policy b q) ps
all_with_policy b q [] n h = tt
all_with_policy b q (p ∷ ps) n h = (held_with_policy p.link b q p n h.0, all_with_policy b q ps n h.1)

held-push : (b : SetParts) (ps : List PolicyParts) (q : PolicyParts) → AreHeld b ps → IsHeld b q
    → AreHeld b (ps ++ q ∷ [])
held-push b [] q h e = (e, tt)
held-push b (p ∷ ps) q h e = (h.0, held-push b ps q h.1 e)

-- Adding a template with an unused id preserves the invariant.
pub template_joins : (b : SetParts) (t : BodyParts) → IsPolicySet b → is_bound b t.id ≡ false
    → IsPolicySet (with_template b t)
template_joins b t h n = record {
  bodies_once = once-push body_id b.bodies t h.bodies_once (no_body_at b t.id n);
  policies_once = h.policies_once;
  held = all_with_template b t b.policies (no_policy_at b t.id n) h.held;
}

no_template_by : (o : Option (List ℕ)) (p : PolicyParts) (u : BodyParts) → Some (binding_by o p) ≡ Some (Template u) → ⊥
no_template_by None p u e = absurd (cc)
no_template_by (Some l) p u e = absurd (cc)

found_template : (p : Option PolicyParts) (t : Option BodyParts) (u : BodyParts) → binding_from p t ≡ Some (Template u)
    → (p ≡ None) × (t ≡ Some u)
found_template (Some p) t u e = absurd (no_template_by p.link p u e)
found_template None (Some t) u e = (refl, cc)
found_template None None u e = absurd (cc)

no_template_in : (o : Option (List ℕ)) (p : PolicyParts) → template_bound (Some (binding_by o p)) ≡ None
no_template_in None p = refl
no_template_in (Some l) p = refl

-- The template with an id is the body with the id, if no policy has the id.
pub template_among : (p : Option PolicyParts) (t : Option BodyParts)
    → template_bound (binding_from p t) ≡ cond (is_some p) None t
template_among (Some p) t = no_template_in p.link p
template_among None (Some t) = refl
template_among None None = refl

pub no_template_among : (p : Option PolicyParts) (t : Option BodyParts) → t ≡ None
    → template_bound (binding_from p t) ≡ None
no_template_among (Some p) t e = no_template_in p.link p
no_template_among None (Some u) e = absurd (cc)
no_template_among None None e = refl

-- If an id is bound to a template, no policy has the id and the body with the id is the template.
pub template_at : (b : SetParts) (i : List ℕ) (u : BodyParts) → bound_at b i ≡ Some (Template u)
    → (list_any (is_policy_at i) b.policies ≡ false) × (find (is_body_at i) b.bodies ≡ Some u)
template_at b i u e =
    let f = found_template (find (is_policy_at i) b.policies) (find (is_body_at i) b.bodies) u e in
    (none_is (is_policy_at i) b.policies f.0, f.1)

link_held : (o : Option (List ℕ)) (b : SetParts) (q : PolicyParts) → o ≡ q.link → CanInsertBy o b q
    → IsHeldBy o (with_policy b q) q
link_held None b q e h = absurd h
link_held (Some l) b q e h =
    let t = template_at b q.template.id q.template h.1 in
    let n = no_body_at b l h.0 in
    let own : policy_id q ≡ l = ap (λ o. unwrap_or o q.template.id) (sym e) in (
      n,
      t.1,
      one_more_policy q.template.id b.policies q t.0 (ap (same_text q.template.id) own
          ∙ ids_apart b.bodies q.template.id l q.template t.1 n),
      h.2,
    )

pub free_link : (o : Option (List ℕ)) (b : SetParts) (q : PolicyParts) → o ≡ q.link → CanInsertBy o b q
    → is_bound b (policy_id q) ≡ false
free_link None b q e h = absurd h
free_link (Some l) b q e h = ap (λ o. is_bound b (unwrap_or o q.template.id)) (sym e) ∙ h.0

-- Adding a link of an existing template preserves the invariant.
pub link_joins : (b : SetParts) (q : PolicyParts) → IsPolicySet b → CanInsert b q → IsPolicySet (with_policy b q)
link_joins b q h c =
    let free = free_link q.link b q refl c in
    record {
      bodies_once = h.bodies_once;
      policies_once = once-push policy_id b.policies q h.policies_once (no_policy_at b (policy_id q) free);
      held = held-push (with_policy b q) b.policies q (all_with_policy b q b.policies
          (no_body_at b (policy_id q) free) h.held) (link_held q.link b q refl c);
    }

is_itself : (i : List ℕ) → same_text i i ≡ true
is_itself i = same_text_equiv.refl i

found_last : (ts : List BodyParts) (t : BodyParts) → list_any (is_body_at t.id) ts ≡ false
    → find (is_body_at t.id) (ts ++ t ∷ []) ≡ Some t
found_last [] t n = ap (λ v. cond v (Some t) None) (is_itself t.id)
found_last (u ∷ us) t n = ap (λ v. cond v (Some u) (find (is_body_at t.id) (us ++ t ∷ []))) (or_parts _ _ n).0
    ∙ found_last us t (or_parts _ _ n).1

pub both_free : (o : Option (List ℕ)) (b : SetParts) (q : PolicyParts) → o ≡ q.link → is_bound b q.template.id ≡ false
    → CanInsertWithBodyBy o b q → is_bound b (policy_id q) ≡ false
both_free None b q e n h = ap (λ o. is_bound b (unwrap_or o q.template.id)) (sym e) ∙ n
both_free (Some l) b q e n h = ap (λ o. is_bound b (unwrap_or o q.template.id)) (sym e) ∙ h.0

both_held : (o : Option (List ℕ)) (b : SetParts) (q : PolicyParts) → o ≡ q.link → is_bound b q.template.id ≡ false
    → CanInsertWithBodyBy o b q → IsHeldBy o (with_body_and_policy b q.template q) q
both_held None b q e n h = (h.0, h.1, found_last b.bodies q.template (no_body_at b q.template.id n))
both_held (Some l) b q e n h =
    let own : policy_id q ≡ l = ap (λ o. unwrap_or o q.template.id) (sym e) in (
      one_more_body l b.bodies q.template (no_body_at b l h.0) h.1,
      found_last b.bodies q.template (no_body_at b q.template.id n),
      one_more_policy q.template.id b.policies q (no_policy_at b q.template.id n) (ap (same_text q.template.id) own
          ∙ turned l q.template.id h.1),
      h.2,
    )

-- Adding a policy together with its template preserves the invariant.
pub both_join : (b : SetParts) (q : PolicyParts) → IsPolicySet b → CanInsertWithBody b q
    → IsPolicySet (with_body_and_policy b q.template q)
both_join b q h c =
    let free = both_free q.link b q refl c.0 c.1 in
    let old = all_with_policy b q b.policies (no_body_at b (policy_id q) free) h.held in
    let all = all_with_template (with_policy b q) q.template b.policies (no_policy_at b q.template.id c.0) old in
    record {
      bodies_once = once-push body_id b.bodies q.template h.bodies_once (no_body_at b q.template.id c.0);
      policies_once = once-push policy_id b.policies q h.policies_once (no_policy_at b (policy_id q) free);
      held = held-push (with_body_and_policy b q.template q) b.policies q all (both_held q.link b q refl c.0 c.1);
    }

-- ---- Removals

differs : (i j k : List ℕ) → same_text i j ≡ false → same_text j k ≡ true → not (same_text i k) ≡ true
differs i j k a e = ap not (ap (same_text i) (sym ((same_text_decides j k).0 e)) ∙ a)

kept_body : (b : SetParts) (i j : List ℕ) → same_text i j ≡ false
    → find (is_body_at j) (filter (λ t. not (is_body_at i t)) b.bodies) ≡ find (is_body_at j) b.bodies
kept_body b i j a = find-filter (λ t. not (is_body_at i t)) (is_body_at j) b.bodies (λ t e. differs i j t.id a e)

not_linked : (l : List ℕ) (v : Bool) → (true && v) ≡ false → v ≡ false
not_linked l v e = e

held_without : (o : Option (List ℕ)) (b : SetParts) (i : List ℕ) (p : PolicyParts)
    → same_text i (unwrap_or o p.template.id) ≡ false → (is_some o && same_text i p.template.id) ≡ false
    → IsHeldBy o b p → IsHeldBy o (without_id b i) p
held_without None b i p a n h = (h.0, h.1, kept_body b i p.template.id a ∙ h.2)
held_without (Some l) b i p a n h = (
  any-filter_none (λ t. not (is_body_at i t)) (is_body_at l) b.bodies h.0,
  kept_body b i p.template.id n ∙ h.1,
  any-filter_none (λ q. not (is_policy_at i q)) (is_policy_at p.template.id) b.policies h.2,
  h.3,
)

kept_held : (v : Bool) (b : SetParts) (i : List ℕ) (p : PolicyParts) (ps : List PolicyParts)
    → same_text i (policy_id p) ≡ v → links_to i p ≡ false → IsHeld b p →
    AreHeld (without_id b i) ps → AreHeld (without_id b i) (cond (not v) (p ∷ ps) ps)
kept_held true b i p ps a n h r = r
kept_held false b i p ps a n h r = (held_without p.link b i p a n h, r)

all_without : (b : SetParts) (i : List ℕ) (ps : List PolicyParts) → list_any (links_to i) ps ≡ false → AreHeld b ps
    → AreHeld (without_id b i) (filter (λ p. not (is_policy_at i p)) ps)
all_without b i [] n h = tt
all_without b i (p ∷ ps) n h =
    kept_held (is_policy_at i p) b i p (filter (λ q. not (is_policy_at i q)) ps) refl (or_parts _ _ n).0 h.0
    (all_without b i ps (or_parts _ _ n).1 h.1)

-- Removing an id without links preserves the invariant.
pub removed_all : (b : SetParts) (i : List ℕ) → IsPolicySet b → has_links b i ≡ false → IsPolicySet (without_id b i)
removed_all b i h n = record {
  bodies_once = once-filter body_id (λ t. not (is_body_at i t)) b.bodies h.bodies_once;
  policies_once = once-filter policy_id (λ p. not (is_policy_at i p)) b.policies h.policies_once;
  held = all_without b i b.policies n h.held;
}

linked_by : (o : Option (List ℕ)) (b : SetParts) (i : List ℕ) (p q : PolicyParts)
    → find (is_policy_at i) b.policies ≡ Some q → IsHeldBy o b p → (v : Bool)
    → (is_some o && same_text i p.template.id) ≡ v → v ≡ false
linked_by None b i p q f h v e = sym e
linked_by (Some l) b i p q f h true e =
    let none : find (is_policy_at i) b.policies ≡ None =
    find-unless (is_policy_at i) b.policies
    (ap (λ k. list_any (is_policy_at k) b.policies) ((same_text_decides i p.template.id).0 e) ∙ h.2) in
    absurd (cc (none, f))
linked_by (Some l) b i p q f h false e = refl

none_linked : (b : SetParts) (i : List ℕ) (q : PolicyParts) (ps : List PolicyParts)
    → find (is_policy_at i) b.policies ≡ Some q → AreHeld b ps → list_any (links_to i) ps ≡ false
none_linked b i q [] f h = refl
none_linked b i q (p ∷ ps) f h = ap (λ v. v || list_any (links_to i) ps)
    (linked_by p.link b i p q f h.0 (links_to i p) refl) ∙ none_linked b i q ps f h.1

-- The id of a policy has no links.
pub policy_has_no_links : (b : SetParts) (i : List ℕ) (q : PolicyParts) → IsPolicySet b
    → find (is_policy_at i) b.policies ≡ Some q → has_links b i ≡ false
policy_has_no_links b i q h f = none_linked b i q b.policies f h.held

-- Adding a policy with an unused id and removing it gives the original set.
pub undone : (b : SetParts) (p : PolicyParts) → is_bound b (policy_id p) ≡ false
    → without_id (with_policy b p) (policy_id p) ≡ b
undone b p n =
    let ts : filter (λ t. not (is_body_at (policy_id p) t)) b.bodies ≡ b.bodies =
    filter_none (is_body_at (policy_id p)) b.bodies (no_body_at b (policy_id p) n) in
    let last : filter (λ q. not (is_policy_at (policy_id p) q)) (p ∷ []) ≡ [] =
    ap (λ v. cond (not v) (p ∷ []) []) (is_itself (policy_id p)) in
    let ps : filter (λ q. not (is_policy_at (policy_id p) q)) (b.policies ++ p ∷ []) ≡ b.policies =
    filter-append (λ q. not (is_policy_at (policy_id p) q)) b.policies (p ∷ [])
    ∙ (λ i. filter_none (is_policy_at (policy_id p)) b.policies (no_policy_at b (policy_id p) n) i ++ last i)
    ∙ append-nil b.policies in
    λ i. record { bodies = ts i; policies = ps i }

found_is : (o : Option PolicyParts) (t : Option BodyParts) (p : PolicyParts) → Some (policy_binding p) ≡ binding_from o t
    → is_some o ≡ true
found_is (Some q) t p e = refl
found_is None (Some u) p e = absurd (no_template_by p.link p u e)
found_is None None p e = absurd (cc)

unlinked_by : (b : SetParts) (i : List ℕ) (o : Option PolicyParts) → IsPolicySet b
    → find (is_policy_at i) b.policies ≡ o → is_some o ≡ true → has_links b i ≡ false
unlinked_by b i (Some q) h f s = policy_has_no_links b i q h f
unlinked_by b i None h f s = absurd (cc)

-- An id that is bound to a policy has no links.
pub bound_policy_unlinked : (b : SetParts) (i : List ℕ) (p : PolicyParts) → IsPolicySet b
    → Some (policy_binding p) ≡ bound_at b i → has_links b i ≡ false
bound_policy_unlinked b i p h e =
    unlinked_by b i (find (is_policy_at i) b.policies) h refl
    (found_is (find (is_policy_at i) b.policies) (find (is_body_at i) b.bodies) p e)

-- An id that is bound to a policy is the id of a policy in the set.
pub bound_policy : (o : Option PolicyParts) (t : Option BodyParts) (p : PolicyParts)
    → Some (policy_binding p) ≡ binding_from o t → MatchOption o ⊥ (λ q. policy_binding q ≡ policy_binding p)
bound_policy (Some q) t p e = cc
bound_policy None (Some u) p e = absurd (no_template_by p.link p u e)
bound_policy None None p e = absurd (cc)

none_among : (o : Option PolicyParts) (t : Option BodyParts) → binding_from o t ≡ None → (o ≡ None) × (t ≡ None)
none_among (Some p) t e = absurd (cc)
none_among None (Some u) e = absurd (cc)
none_among None None e = (refl, refl)

neither : (a b : Bool) → a ≡ false → b ≡ false → (a || b) ≡ false
neither a b p q = cc

-- If an id has no binding, it is not in use.
pub none_bound : (b : SetParts) (i : List ℕ) → bound_at b i ≡ None → is_bound b i ≡ false
none_bound b i e =
    let u = none_among (find (is_policy_at i) b.policies) (find (is_body_at i) b.bodies) e in
    neither _ _ (none_is (is_policy_at i) b.policies u.0) (none_is (is_body_at i) b.bodies u.1)

-- A link whose template is missing can be added together with it.
pub can_join_both : (o : Option (List ℕ)) (b : SetParts) (p : PolicyParts) → o ≡ p.link → (o ≡ None → ⊥)
    → is_bound b (policy_id p) ≡ false → same_text (policy_id p) p.template.id ≡ false →
    FitsSlots (body_slots p.template) p.env → CanInsertWithBodyBy o b p
can_join_both None b p e n f s t = absurd (n refl)
can_join_both (Some l) b p e n f s t =
    let own : policy_id p ≡ l = ap (λ o. unwrap_or o p.template.id) (sym e) in
    (ap (is_bound b) (sym own) ∙ f, ap (λ i. same_text i p.template.id) (sym own) ∙ s, t)

-- A link of an existing equal template can be added.
pub can_join : (o : Option (List ℕ)) (b : SetParts) (p : PolicyParts) (u : BodyParts) → o ≡ p.link → (o ≡ None → ⊥)
    → is_bound b (policy_id p) ≡ false → bound_at b p.template.id ≡ Some (Template u) →
    same_body u p.template ≡ true → FitsSlots (body_slots p.template) p.env → CanInsertBy o b p
can_join None b p u e n f t s x = absurd (n refl)
can_join (Some l) b p u e n f t s x =
    let own : policy_id p ≡ l = ap (λ o. unwrap_or o p.template.id) (sym e) in
    (ap (is_bound b) (sym own) ∙ f, t ∙ ap (λ v. Some (Template v)) ((same_body_decides u p.template).0 s), x)

other_id : (i j : List ℕ) (v : Bool) → same_text i j ≡ v → (Some i ≡ Some j → ⊥) → v ≡ false
other_id i j true e n = absurd (n (ap Some ((same_text_decides i j).0 e)))
other_id i j false e n = refl

alone_by : (o : Option (List ℕ)) (p : PolicyParts) → (o ≡ Some p.template.id → ⊥)
    → (o ≡ None → p ≡ static_policy p.template) → (o ≡ None → body_slots p.template ≡ []) →
    FitsSlots (body_slots p.template) p.env → CanInsertWithBodyBy o empty_set p
alone_by None p own whole slots total = (whole refl, slots refl)
alone_by (Some l) p own whole slots total = (refl, other_id l p.template.id (same_text l p.template.id) refl own, total)

-- A policy that is not a link with its template's id can be added to the empty set.
pub alone : (p : PolicyParts) → HasDistinctId p → (p.link ≡ None → p ≡ static_policy p.template)
    → (p.link ≡ None → body_slots p.template ≡ []) → BindsExactly (body_slots p.template) p.env →
    wrong_action p.env ≡ None → CanInsertWithBody empty_set p
alone p own whole slots total action = (
  refl,
  alone_by p.link p own whole slots (record {
    exactly = total;
    action =
        action;
  }),
)
