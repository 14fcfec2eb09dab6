-- How to recognize a conflict between two bodies, or two policies, with the same id.
use Rattle.std.specs.Prelude.{◌≡◌, ℕ, List, [], ◌∷◌, Bool, true, false, not, ◌||◌, ◌&&◌, Option, Some, None, is_some}
use Rattle.std.specs.Prelude.{refl}
use Rattle.std.proofs.Common.{sym, ap, ◌∙◌, inl, inr, arith}
use Rattle.std.proofs.lemmas.Grind.{common_steps}
use Rattle.std.specs.List.{find, list_any}
use Rattle.std.specs.Option.{option_eq}
use Rattle.cedar_body.specs.Bodies.{BodyParts}
use Rattle.cedar_body.specs.BodyEquality.{same_body}
use Rattle.cedar_policy.specs.Policies.{PolicyParts, policy_id}
use Rattle.cedar_policy.specs.PolicyEquality.{same_policy}
use Rattle.cedar_policy_maps.specs.PolicySets.{SetParts, Binding, Template, binding_from, policy_binding, is_body_at}
use Rattle.cedar_policy_maps.specs.PolicySets.{is_policy_at, IsPolicySet}
use Rattle.cedar_policy_merge.specs.Merge.{has_body, has_policy, is_same_at}
use Rattle.cedar_policy_merge.specs.laws.ConflictLaws.{Shape, shape_by, twice, whole, same_in_orders}
use Rattle.cedar_policy_merge.specs.laws.GatherLaws.{looked_at, Policies, Links, Templates}

-- Whether two truth values are equal.
abbrev pub agree : Bool → Bool → Bool
agree true w = w
agree false w = not w

-- ---- Truth values

none : (v : Bool) → (v && false) ≡ false
none true = refl
none false = refl

unlike : (v : Bool) → not ((v && false) && false) ≡ not (v && false)
unlike true = refl
unlike false = refl

denied : (v w : Bool) → not (v && w) ≡ (not v || not w)
denied true w = refl
denied false w = refl

-- An element passes a test exactly if the search finds one.
pub found_any : {X : Type 0} (t : X → Bool) (xs : List X) → list_any t xs ≡ is_some (find t xs)
found_any t [] = refl
found_any t (x ∷ xs) = grind (arith, common_steps, found_any t xs)

-- ---- Bodies of both sets

-- Whether the policies are equal and the bodies are equal.
abbrev alike_at : Option PolicyParts → Option PolicyParts → Option BodyParts → Option BodyParts → Bool
alike_at p q t u = option_eq same_policy p q && option_eq same_body t u

-- Whether the bodies are equal, and both sets or neither set have a policy.
abbrev by_bodies : Option PolicyParts → Option PolicyParts → BodyParts → BodyParts → Bool
by_bodies p q t u = same_body t u && agree (is_some p) (is_some q)

at_bodies : {p r q s : Option PolicyParts} {t v u w : BodyParts} → p ≡ r → q ≡ s → t ≡ v → u ≡ w
    → alike_at r s (Some v) (Some w) ≡ by_bodies r s v w → alike_at p q (Some t) (Some u) ≡ by_bodies p q t u
at_bodies p q t u h = (λ i. alike_at (p i) (q i) (Some (t i)) (Some (u i))) ∙ h
    ∙ sym (λ i. by_bodies (p i) (q i) (t i) (u i))

only : {t u : BodyParts} → Some t ≡ Some u → t ≡ u
only e = cc

bodies_alike : (p q : Option PolicyParts) (t u : BodyParts) (x y : Binding) → Shape p (Some t) x → Shape q (Some u) y
    → alike_at p q (Some t) (Some u) ≡ by_bodies p q t u
bodies_alike p q t u x y (inl a) (inl b) = at_bodies a.1 b.1 (only a.2) (only b.2) (twice (same_body a.0 b.0)
    ∙ sym (whole (same_body a.0 b.0)))
bodies_alike p q t u x y (inl a) (inr (inl b)) = absurd (cc (b.4))
bodies_alike p q t u x y (inl a) (inr (inr b)) = at_bodies a.1 b.1 (only a.2) (only b.2)
    (sym (none (same_body a.0 b.0)))
bodies_alike p q t u x y (inr (inl a)) b = absurd (cc (a.4))
bodies_alike p q t u x y (inr (inr a)) (inl b) = at_bodies a.1 b.1 (only a.2) (only b.2)
    (sym (none (same_body a.0 b.0)))
bodies_alike p q t u x y (inr (inr a)) (inr (inl b)) = absurd (cc (b.4))
bodies_alike p q t u x y (inr (inr a)) (inr (inr b)) = at_bodies a.1 b.1 (only a.2) (only b.2)
    (sym (whole (same_body a.0 b.0)))

-- The binding of an id whose body is found.
binding_with : Option PolicyParts → BodyParts → Binding
binding_with (Some p) t = policy_binding p
binding_with None t = Template t

bound_with : (p : Option PolicyParts) (t : BodyParts) → binding_from p (Some t) ≡ Some (binding_with p t)
unfolding binding_with
bound_with (Some p) t = refl
bound_with None t = refl

shape_with : (b : SetParts) (i : List ℕ) (t : BodyParts) → IsPolicySet b → find (is_body_at i) b.bodies ≡ Some t
    → Shape (find (is_policy_at i) b.policies) (Some t) (binding_with (find (is_policy_at i) b.policies) t)
shape_with b i t h f = shape_by b i _ (find (is_policy_at i) b.policies) (Some t) h refl f
    (bound_with (find (is_policy_at i) b.policies) t)

-- An id with bodies in both sets is in conflict, unless the bodies are equal and both sets or neither set have a policy
-- with it.
pub bodies_differ : (h o : SetParts) (i : List ℕ) (t u : BodyParts) → IsPolicySet h → IsPolicySet o
    → find (is_body_at i) h.bodies ≡ Some t → find (is_body_at i) o.bodies ≡ Some u →
    (has_body h i && not (is_same_at h o i)) ≡ (not (same_body t u) || not (agree (has_policy h i) (has_policy o i)))
bodies_differ h o i t u x y f g =
    let p = find (is_policy_at i) h.policies in
    let q = find (is_policy_at i) o.policies in
    ap (λ v. has_body h i && not v) (sym (same_in_orders h o i x y))
    ∙ (λ j. (found_any (is_body_at i) h.bodies ∙ ap is_some f) j && not (alike_at p q (f j) (g j)))
    ∙ ap not (bodies_alike p q t u (binding_with p t) (binding_with q u) (shape_with h i t x f) (shape_with o i u y g))
    ∙ denied (same_body t u) (agree (is_some p) (is_some q))
    ∙ (λ j. not (same_body t u) || not (agree (sym (found_any (is_policy_at i) h.policies) j)
    (sym (found_any (is_policy_at i) o.policies) j)))

-- ---- Policies of both sets

-- Whether the group `Policies` checks an id and its bindings differ.
abbrev differs_at : PolicyParts → PolicyParts → Option BodyParts → Option BodyParts → Bool
differs_at p q t u = not (is_some t && is_some u) && not (alike_at (Some p) (Some q) t u)

-- Whether two policies differ and one of them is a link.
abbrev by_policies : PolicyParts → PolicyParts → Bool
by_policies p q = (is_some p.link || is_some q.link) && not (same_policy p q)

at_policies : {p r q s : PolicyParts} {t v u w : Option BodyParts} → p ≡ r → q ≡ s → t ≡ v → u ≡ w
    → differs_at r s v w ≡ by_policies r s → differs_at p q t u ≡ by_policies p q
at_policies p q t u h = (λ i. differs_at (p i) (q i) (t i) (u i)) ∙ h ∙ sym (λ i. by_policies (p i) (q i))

this : {p q : PolicyParts} → Some p ≡ Some q → p ≡ q
this e = cc

policies_unlike : (p q : PolicyParts) (t u : Option BodyParts) (x y : Binding) → Shape (Some p) t x
    → Shape (Some q) u y → differs_at p q t u ≡ by_policies p q
policies_unlike p q t u x y (inl a) (inl b) = at_policies (this a.1) (this b.1) a.2 b.2 refl
policies_unlike p q t u x y (inl a) (inr (inl b)) = at_policies (this a.1) (this b.3) a.2 b.4
    (unlike (same_body a.0 b.1))
policies_unlike p q t u x y (inl a) (inr (inr b)) = absurd (cc (b.1))
policies_unlike p q t u x y (inr (inl a)) (inl b) = at_policies (this a.3) (this b.1) a.4 b.2
    (unlike (same_body a.1 b.0))
policies_unlike p q t u x y (inr (inl a)) (inr (inl b)) = at_policies (this a.3) (this b.3) a.4 b.4
    (ap not (whole (same_policy (record { template = a.1; link = Some a.0; env = a.2 })
    (record { template = b.1; link = Some b.0; env = b.2 }))))
policies_unlike p q t u x y (inr (inl a)) (inr (inr b)) = absurd (cc (b.1))
policies_unlike p q t u x y (inr (inr a)) b = absurd (cc (a.1))

shape_of : (b : SetParts) (i : List ℕ) (p : PolicyParts) → IsPolicySet b → find (is_policy_at i) b.policies ≡ Some p
    → Shape (Some p) (find (is_body_at i) b.bodies) (policy_binding p)
shape_of b i p h f = shape_by b i (policy_binding p) (Some p) (find (is_body_at i) b.bodies) h f refl refl

-- An id with policies in both sets and a body in at most one is in conflict, unless the policies are equal. One of the
-- policies is then a link.
policies_differ : (h o : SetParts) (i : List ℕ) (p q : PolicyParts) → IsPolicySet h → IsPolicySet o
    → find (is_policy_at i) h.policies ≡ Some p → find (is_policy_at i) o.policies ≡ Some q →
    (looked_at Policies h o i && not (is_same_at h o i))
    ≡ ((is_some p.link || is_some q.link) && not (same_policy p q))
policies_differ h o i p q x y f g =
    let t = find (is_body_at i) h.bodies in
    let u = find (is_body_at i) o.bodies in
    ap (λ v. looked_at Policies h o i && not v) (sym (same_in_orders h o i x y))
    ∙ (λ j. (not (found_any (is_body_at i) h.bodies j && found_any (is_body_at i) o.bodies j)
    && (found_any (is_policy_at i) h.policies ∙ ap is_some f) j) && not (alike_at (f j) (g j) t u))
    ∙ ap (λ v. v && not (alike_at (Some p) (Some q) t u)) (whole (not (is_some t && is_some u)))
    ∙ policies_unlike p q t u (policy_binding p) (policy_binding q) (shape_of h i p x f) (shape_of o i q y g)

-- ---- The cases of a lookup

-- The group `Bodies` collects nothing if no body of this set has the id.
pub no_body_looked : (h o : SetParts) (i : List ℕ) → None ≡ find (is_body_at i) h.bodies
    → false ≡ (has_body h i && not (is_same_at h o i))
no_body_looked h o i f = λ j. (sym (found_any (is_body_at i) h.bodies ∙ ap is_some (sym f)) j) && not (is_same_at h o i)

-- If only the other set has a body with an id, the group `Links` collects the id exactly if this set has a policy with
-- that id.
pub link_here : (h o : SetParts) (i : List ℕ) (t : BodyParts) → IsPolicySet h → IsPolicySet o
    → None ≡ find (is_body_at i) h.bodies → find (is_body_at i) o.bodies ≡ Some t
    → has_policy h i ≡ (looked_at Links h o i && not (is_same_at h o i))
link_here h o i t x y f g =
    let p = find (is_policy_at i) h.policies in
    let q = find (is_policy_at i) o.policies in
    sym (whole (has_policy h i))
    ∙ sym (ap (λ v. has_policy h i && not v) (none (option_eq same_policy p q)))
    ∙ sym (λ j. (not ((found_any (is_body_at i) h.bodies ∙ ap is_some (sym f)) j) && has_policy h i)
    && not (alike_at p q (sym f j) (g j)))
    ∙ ap (λ v. looked_at Links h o i && not v) (same_in_orders h o i x y)

-- The group `Links` collects nothing if a body of this set has the id.
pub no_link_looked : (h o : SetParts) (i : List ℕ) (t : BodyParts) → Some t ≡ find (is_body_at i) h.bodies
    → false ≡ (looked_at Links h o i && not (is_same_at h o i))
no_link_looked h o i t f =
    sym (λ j. (not ((found_any (is_body_at i) h.bodies ∙ ap is_some (sym f)) j) && has_policy h i)
    && not (is_same_at h o i))

-- The group `Policies` collects nothing if no policy of this set has the id.
no_policy_looked : (h o : SetParts) (i : List ℕ) → None ≡ find (is_policy_at i) h.policies
    → false ≡ (looked_at Policies h o i && not (is_same_at h o i))
no_policy_looked h o i f =
    sym (ap (λ v. v && not (is_same_at h o i)) (none (not (has_body h i && has_body o i))))
    ∙ (λ j. (not (has_body h i && has_body o i)
    && sym (found_any (is_policy_at i) h.policies ∙ ap is_some (sym f)) j) && not (is_same_at h o i))

-- The group `Templates` collects nothing if a policy of this set has the id.
no_template_looked : (h o : SetParts) (i : List ℕ) (p : PolicyParts) → Some p ≡ find (is_policy_at i) h.policies
    → false ≡ (looked_at Templates h o i && not (is_same_at h o i))
no_template_looked h o i p f =
    sym (λ j. (not ((found_any (is_policy_at i) h.policies ∙ ap is_some (sym f)) j) && has_body h i)
    && not (is_same_at h o i))

-- ---- A policy of the other set

-- Whether a policy of the other set differs from this set's policy with its id, and one of them is a link. Static
-- policies conflict by their bodies.
abbrev pub clashes_with : Option PolicyParts → PolicyParts → Bool
clashes_with None q = false
clashes_with (Some p) q = (is_some p.link || is_some q.link) && not (same_policy p q)

-- Whether a policy of the other set conflicts in this way.
abbrev pub clashes : SetParts → PolicyParts → Bool
clashes here q = clashes_with (find (is_policy_at (policy_id q)) here.policies) q

-- Whether a body of this set has the policy's id, and no policy of this set.
abbrev pub lies_over : SetParts → PolicyParts → Bool
lies_over here q = not (has_policy here (policy_id q)) && has_body here (policy_id q)

-- If no policy of this set has the id, `lies_over` only checks the bodies.
pub over_body : (h : SetParts) (q : PolicyParts) → None ≡ find (is_policy_at (policy_id q)) h.policies
    → has_body h (policy_id q) ≡ lies_over h q
over_body h q f =
    sym (λ j. not ((found_any (is_policy_at (policy_id q)) h.policies ∙ ap is_some (sym f)) j)
    && has_body h (policy_id q))

-- If a policy of this set has the id, `lies_over` is false.
pub not_over : (h : SetParts) (q p : PolicyParts) → Some p ≡ find (is_policy_at (policy_id q)) h.policies
    → false ≡ lies_over h q
not_over h q p f =
    sym (λ j. not ((found_any (is_policy_at (policy_id q)) h.policies ∙ ap is_some (sym f)) j)
    && has_body h (policy_id q))

clashes_by : (h o : SetParts) (q : PolicyParts) (r : Option PolicyParts) → IsPolicySet h → IsPolicySet o
    → find (is_policy_at (policy_id q)) o.policies ≡ Some q → find (is_policy_at (policy_id q)) h.policies ≡ r →
    clashes_with r q ≡ (looked_at Policies h o (policy_id q) && not (is_same_at h o (policy_id q)))
clashes_by h o q None x y g f = no_policy_looked h o (policy_id q) (sym f)
clashes_by h o q (Some p) x y g f = sym (policies_differ h o (policy_id q) p q x y f g)

-- `clashes` states whether the group `Policies` collects the policy's id.
pub clashes_is : (h o : SetParts) (q : PolicyParts) → IsPolicySet h → IsPolicySet o
    → find (is_policy_at (policy_id q)) o.policies ≡ Some q →
    clashes h q ≡ (looked_at Policies h o (policy_id q) && not (is_same_at h o (policy_id q)))
clashes_is h o q x y g = clashes_by h o q (find (is_policy_at (policy_id q)) h.policies) x y g refl

over_by : (h o : SetParts) (q : PolicyParts) (r : Option PolicyParts) → IsPolicySet h → IsPolicySet o
    → find (is_policy_at (policy_id q)) o.policies ≡ Some q → find (is_policy_at (policy_id q)) h.policies ≡ r →
    lies_over h q ≡ (looked_at Templates h o (policy_id q) && not (is_same_at h o (policy_id q)))
over_by h o q None x y g f =
    sym (whole (lies_over h q))
    ∙ sym (λ j. lies_over h q && not (alike_at (f j) (g j) (find (is_body_at (policy_id q)) h.bodies)
    (find (is_body_at (policy_id q)) o.bodies)))
    ∙ ap (λ v. lies_over h q && not v) (same_in_orders h o (policy_id q) x y)
over_by h o q (Some p) x y g f = sym (not_over h q p (sym f)) ∙ no_template_looked h o (policy_id q) p (sym f)

-- `lies_over` states whether the group `Templates` collects the policy's id.
pub lies_over_is : (h o : SetParts) (q : PolicyParts) → IsPolicySet h → IsPolicySet o
    → find (is_policy_at (policy_id q)) o.policies ≡ Some q →
    lies_over h q ≡ (looked_at Templates h o (policy_id q) && not (is_same_at h o (policy_id q)))
lies_over_is h o q x y g = over_by h o q (find (is_policy_at (policy_id q)) h.policies) x y g refl
