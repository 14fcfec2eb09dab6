-- An id is in conflict exactly if both policy sets use it and bind it differently.
use Rattle.std.specs.Prelude.{◌≡◌, ◌⊎◌, ◌↔◌, ℕ, List, [], ◌∷◌, ◌++◌, Bool, true, false, not, ◌||◌, ◌&&◌, Option, Some}
use Rattle.std.specs.Prelude.{None, refl}
use Rattle.std.proofs.Common.{inl, inr, sym, ap, ◌∙◌, cond, subst}
use Rattle.std.specs.List.{find, filter, list_any}
use Rattle.std.specs.Option.{option_eq, unwrap_or}
use Rattle.std.proofs.lemmas.Bool.{false≢true}
use Rattle.std.proofs.lemmas.List.Folds.{list_any-append}
use Rattle.cedar_ids.specs.Texts.{same_text}
use Rattle.cedar_ids.specs.laws.TextLaws.{same_text_decides}
use Rattle.cedar_body.specs.Bodies.{BodyParts}
use Rattle.cedar_body.specs.BodyEquality.{same_body}
use Rattle.cedar_binding.specs.Bindings.{EnvParts}
use Rattle.cedar_policy.specs.Policies.{PolicyParts, policy_id, static_policy}
use Rattle.cedar_policy.specs.PolicyEquality.{same_policy}
use Rattle.cedar_policy_maps.specs.PolicySets.{SetParts, Binding, Static, Template, Link, bound_at, binding_from}
use Rattle.cedar_policy_maps.specs.PolicySets.{binding_by}
use Rattle.cedar_policy_maps.specs.PolicySets.{is_bound, is_body_at, is_policy_at, IsHeld, IsHeldBy, AreHeld}
use Rattle.cedar_policy_maps.specs.PolicySets.{IsPolicySet}
use Rattle.cedar_policy_merge.specs.Merge.{has_body, has_policy, body_ids, policy_ids, is_same_at, conflicting}
use Rattle.cedar_policy_merge.specs.Merge.{conflicts}
use Rattle.cedar_policy_merge.specs.Merge.{same_binding, DifferAt}
use Rattle.cedar_policy_maps.specs.laws.OnceLaws.{find-unless, found_passes, any-map}
use Rattle.cedar_policy_merge.specs.laws.RenamingLaws.{is_in, either_of, in_gathered, conflict_found, first_of}
use Rattle.cedar_policy_merge.specs.laws.RenamingLaws.{second_of}

-- ---- The policy and the body of a used id

-- Whether these are the policy and the body of a binding. A static policy has both, a link has only a policy, and a
-- template has only a body.
abbrev pub Shape : Option PolicyParts → Option BodyParts → Binding → Type 0
Shape p t x =
    ((u : BodyParts) × (p ≡ Some (static_policy u)) × (t ≡ Some u) × (x ≡ Static u))
    ⊎ (((l : List ℕ) × (u : BodyParts) × (e : EnvParts) × (p ≡ Some (record { template = u; link = Some l; env = e }))
    × (t ≡ None) × (x ≡ Link l u e))
    ⊎ ((u : BodyParts) × (p ≡ None) × (t ≡ Some u) × (x ≡ Template u)))

held_at : (v : Bool) (b : SetParts) (q p : PolicyParts) (rest : Option PolicyParts) → cond v (Some q) rest ≡ Some p
    → IsHeld b q → (rest ≡ Some p → IsHeld b p) → IsHeld b p
held_at true b q p rest f h r = let same : q ≡ p = cc in subst (IsHeld b) same h
held_at false b q p rest f h r = r f

-- A policy that is found fits the set.
pub policy_held : (b : SetParts) (i : List ℕ) (ps : List PolicyParts) (p : PolicyParts) → find (is_policy_at i) ps ≡ Some p
    → AreHeld b ps → IsHeld b p
policy_held b i [] p f h = absurd (cc)
policy_held b i (q ∷ qs) p f h = held_at (is_policy_at i q) b q p (find (is_policy_at i) qs) f h.0
    (λ g. policy_held b i qs p g h.1)

told : {x y : Binding} → Some x ≡ Some y → y ≡ x
told e = cc

shape_held : (o : Option (List ℕ)) (b : SetParts) (i : List ℕ) (x : Binding) (p : PolicyParts) (t : Option BodyParts)
    → o ≡ p.link → i ≡ unwrap_or o p.template.id → find (is_body_at i) b.bodies ≡ t →
    IsHeldBy o b p → Some (binding_by o p) ≡ Some x → Shape (Some p) t x
shape_held None b i x p t l s r h e =
    inl (p.template, ap Some h.0, sym r ∙ ap (λ j. find (is_body_at j) b.bodies) s ∙ h.2, told e)
shape_held (Some k) b i x p t l s r h e =
    let none : find (is_body_at i) b.bodies ≡ None = ap (λ j. find (is_body_at j) b.bodies) s
    ∙ find-unless (is_body_at k) b.bodies h.0 in
    inr (inl (
      k,
      p.template,
      p.env,
      (λ j. Some (record { template = p.template; link = sym l j; env = p.env })),
      sym r
          ∙ none,
      told e,
    ))

pub shape_by : (b : SetParts) (i : List ℕ) (x : Binding) (p : Option PolicyParts) (t : Option BodyParts) → IsPolicySet b
    → find (is_policy_at i) b.policies ≡ p → find (is_body_at i) b.bodies ≡ t → binding_from p t ≡ Some x → Shape p t x
shape_by b i x (Some p) t h f r e =
    shape_held p.link b i x p t refl ((same_text_decides i (policy_id p)).0
    (found_passes (is_policy_at i) b.policies p f)) r (policy_held b i b.policies p f h.held) e
shape_by b i x None (Some u) h f r e = inr (inr (u, refl, refl, told e))
shape_by b i x None None h f r e = absurd (cc)

shape : (b : SetParts) (i : List ℕ) (x : Binding) → IsPolicySet b → bound_at b i ≡ Some x
    → Shape (find (is_policy_at i) b.policies) (find (is_body_at i) b.bodies) x
shape b i x h e = shape_by b i x (find (is_policy_at i) b.policies) (find (is_body_at i) b.bodies) h refl refl e

-- ---- Equal policies and bodies, equal bindings

pub twice : (v : Bool) → ((v && true) && v) ≡ v
twice true = refl
twice false = refl

never : (v w : Bool) → ((v && false) && w) ≡ false
never true w = refl
never false w = refl

pub whole : (v : Bool) → (v && true) ≡ v
whole true = refl
whole false = refl

at_ends : {p p2 q q2 : Option PolicyParts} {t t2 u u2 : Option BodyParts} {x x2 y y2 : Binding} → p ≡ p2 → q ≡ q2
    → t ≡ t2 → u ≡ u2 → x ≡ x2 → y ≡ y2 →
    (option_eq same_policy p2 q2 && option_eq same_body t2 u2) ≡ same_binding x2 y2
    → (option_eq same_policy p q && option_eq same_body t u) ≡ same_binding x y
at_ends p q t u x y h = (λ i. option_eq same_policy (p i) (q i) && option_eq same_body (t i) (u i)) ∙ h
    ∙ sym (λ i. same_binding (x i) (y i))

alike : (p q : Option PolicyParts) (t u : Option BodyParts) (x y : Binding) → Shape p t x → Shape q u y
    → (option_eq same_policy p q && option_eq same_body t u) ≡ same_binding x y
alike p q t u x y (inl a) (inl b) = at_ends a.1 b.1 a.2 b.2 a.3 b.3 (twice (same_body a.0 b.0))
alike p q t u x y (inl a) (inr (inl b)) = at_ends a.1 b.3 a.2 b.4 a.3 b.5 (never (same_body a.0 b.1) false)
alike p q t u x y (inl a) (inr (inr b)) = at_ends a.1 b.1 a.2 b.2 a.3 b.3 refl
alike p q t u x y (inr (inl a)) (inl b) = at_ends a.3 b.1 a.4 b.2 a.5 b.3 (never (same_body a.1 b.0) false)
alike p q t u x y (inr (inl a)) (inr (inl b)) = at_ends a.3 b.3 a.4 b.4 a.5 b.5
    (whole (same_binding (Link a.0 a.1 a.2) (Link b.0 b.1 b.2)))
alike p q t u x y (inr (inl a)) (inr (inr b)) = at_ends a.3 b.1 a.4 b.2 a.5 b.3 refl
alike p q t u x y (inr (inr a)) (inl b) = at_ends a.1 b.1 a.2 b.2 a.3 b.3 refl
alike p q t u x y (inr (inr a)) (inr (inl b)) = at_ends a.1 b.3 a.2 b.4 a.3 b.5 refl
alike p q t u x y (inr (inr a)) (inr (inr b)) = at_ends a.1 b.1 a.2 b.2 a.3 b.3 refl

-- An id that is not in use has no policy and no body.
none_among : (p : Option PolicyParts) (t : Option BodyParts) → binding_from p t ≡ None → (p ≡ None) × (t ≡ None)
none_among (Some p) t e = absurd (cc)
none_among None (Some u) e = absurd (cc)
none_among None None e = (refl, refl)

-- The policy and the body of an id that is in use are not both absent.
unlike_here : (q : Option PolicyParts) (u : Option BodyParts) (y : Binding) → Shape q u y
    → (option_eq same_policy None q && option_eq same_body None u) ≡ false
unlike_here q u y (inl b) = λ i. option_eq same_policy None (b.1 i) && option_eq same_body None (b.2 i)
unlike_here q u y (inr (inl b)) = λ i. option_eq same_policy None (b.3 i) && option_eq same_body None (b.4 i)
unlike_here q u y (inr (inr b)) = λ i. option_eq same_policy None (b.1 i) && option_eq same_body None (b.2 i)

unlike_there : (p : Option PolicyParts) (t : Option BodyParts) (x : Binding) → Shape p t x
    → (option_eq same_policy p None && option_eq same_body t None) ≡ false
unlike_there p t x (inl a) = λ i. option_eq same_policy (a.1 i) None && option_eq same_body (a.2 i) None
unlike_there p t x (inr (inl a)) = λ i. option_eq same_policy (a.3 i) None && option_eq same_body (a.4 i) None
unlike_there p t x (inr (inr a)) = λ i. option_eq same_policy (a.1 i) None && option_eq same_body (a.2 i) None

orders_by : (h o : SetParts) (i : List ℕ) (x y : Option Binding) → IsPolicySet h → IsPolicySet o → bound_at h i ≡ x
    → bound_at o i ≡ y → (option_eq same_policy (find (is_policy_at i) h.policies) (find (is_policy_at i) o.policies)
    && option_eq same_body (find (is_body_at i) h.bodies) (find (is_body_at i) o.bodies)) ≡ option_eq same_binding x y
orders_by h o i None None b c e f =
    let n = none_among _ _ e in
    let m = none_among _ _ f in
    λ j. option_eq same_policy (n.0 j) (m.0 j) && option_eq same_body (n.1 j) (m.1 j)
orders_by h o i None (Some y) b c e f =
    let n = none_among _ _ e in
    (λ j. option_eq same_policy (n.0 j) (find (is_policy_at i) o.policies)
    && option_eq same_body (n.1 j) (find (is_body_at i) o.bodies))
    ∙ unlike_here _ _ y (shape o i y c f)
orders_by h o i (Some x) None b c e f =
    let m = none_among _ _ f in
    (λ j. option_eq same_policy (find (is_policy_at i) h.policies) (m.0 j)
    && option_eq same_body (find (is_body_at i) h.bodies) (m.1 j))
    ∙ unlike_there _ _ x (shape h i x b e)
orders_by h o i (Some x) (Some y) b c e f = alike _ _ _ _ x y (shape h i x b e) (shape o i y c f)

-- Two sets bind an id equally exactly if its policies and its bodies are equal.
pub same_in_orders : (h o : SetParts) (i : List ℕ) → IsPolicySet h → IsPolicySet o →
    (option_eq same_policy (find (is_policy_at i) h.policies) (find (is_policy_at i) o.policies)
    && option_eq same_body (find (is_body_at i) h.bodies) (find (is_body_at i) o.bodies)) ≡ is_same_at h o i
same_in_orders h o i b c = orders_by h o i (bound_at h i) (bound_at o i) b c refl refl

-- ---- The elements of the conflicting ids

both_of : (a b : Bool) → (a && not b) ≡ true → (a ≡ true) × (b ≡ false)
both_of true false h = (refl, refl)
both_of true true h = absurd (false≢true h)
both_of false b h = absurd (false≢true h)

filtered_at : (v : Bool) (p : List ℕ → Bool) (i x : List ℕ) (rest : List (List ℕ)) → p x ≡ v
    → is_in i (cond v (x ∷ rest) rest) ≡ true → (is_in i rest ≡ true → p i ≡ true) → p i ≡ true
filtered_at true p i x rest e h r = passes (either_of (same_text i x) (is_in i rest) h)
  where
    passes : (same_text i x ≡ true) ⊎ (is_in i rest ≡ true) → p i ≡ true
    passes (inl s) = ap p ((same_text_decides i x).0 s) ∙ e
    passes (inr k) = r k
filtered_at false p i x rest e h r = r h

from_filter : (p : List ℕ → Bool) (i : List ℕ) (is : List (List ℕ)) → is_in i (filter p is) ≡ true → p i ≡ true
from_filter p i [] h = absurd (false≢true h)
from_filter p i (x ∷ is) h = filtered_at (p x) p i x (filter p is) refl h (λ k. from_filter p i is k)

kept_at : (v : Bool) (p : List ℕ → Bool) (i x : List ℕ) (is rest : List (List ℕ))
    → is_in i (cond v (x ∷ rest) rest) ≡ true → (is_in i rest ≡ true → is_in i is ≡ true)
    → (same_text i x || is_in i is) ≡ true
kept_at true p i x is rest h r = kept (either_of (same_text i x) (is_in i rest) h)
  where
    kept : (same_text i x ≡ true) ⊎ (is_in i rest ≡ true) → (same_text i x || is_in i is) ≡ true
    kept (inl s) = first_of (same_text i x) (is_in i is) s
    kept (inr k) = second_of (same_text i x) (is_in i is) (r k)
kept_at false p i x is rest h r = second_of (same_text i x) (is_in i is) (r h)

in_list : (p : List ℕ → Bool) (i : List ℕ) (is : List (List ℕ)) → is_in i (filter p is) ≡ true → is_in i is ≡ true
in_list p i [] h = h
in_list p i (x ∷ is) h = kept_at (p x) p i x is (filter p is) h (λ k. in_list p i is k)

clashes : (h o : SetParts) (stands : List ℕ → Bool) (is : List (List ℕ)) (i : List ℕ)
    → (stands i ≡ true → is_bound h i ≡ true) → (is_in i is ≡ true → is_bound o i ≡ true)
    → is_in i (conflicting h o stands is) ≡ true → DifferAt h o i
clashes h o stands is i here there k =
    let p = both_of (stands i) (is_same_at h o i) (from_filter (λ j. stands j && not (is_same_at h o j)) i is k) in
    (here p.0, there (in_list (λ j. stands j && not (is_same_at h o j)) i is k), p.1)

by_policy : (b : SetParts) (i : List ℕ) → has_policy b i ≡ true → is_bound b i ≡ true
by_policy b i h = first_of (has_policy b i) (has_body b i) h

by_body : (b : SetParts) (i : List ℕ) → has_body b i ≡ true → is_bound b i ≡ true
by_body b i h = second_of (has_policy b i) (has_body b i) h

among_bodies : (b : SetParts) (i : List ℕ) → is_in i (body_ids b) ≡ true → is_bound b i ≡ true
among_bodies b i h = by_body b i (sym (any-map (λ (t : BodyParts). t.id) (same_text i) b.bodies) ∙ h)

among_policies : (b : SetParts) (i : List ℕ) → is_in i (policy_ids b) ≡ true → is_bound b i ≡ true
among_policies b i h = by_policy b i (sym (any-map policy_id (same_text i) b.policies) ∙ h)

split : (i : List ℕ) (xs ys : List (List ℕ)) → is_in i (xs ++ ys) ≡ true → (is_in i xs ≡ true) ⊎ (is_in i ys ≡ true)
split i xs ys h = either_of (is_in i xs) (is_in i ys) (sym (list_any-append (same_text i) xs ys) ∙ h)

of_four : (h o : SetParts) (i : List ℕ) → (is_in i (conflicting h o (has_policy h) (body_ids o)) ≡ true)
    ⊎ (is_in i (conflicting h o (has_body h) (policy_ids o)) ≡ true) → DifferAt h o i
of_four h o i (inl k) = clashes h o (has_policy h) (body_ids o) i (by_policy h i) (among_bodies o i) k
of_four h o i (inr k) = clashes h o (has_body h) (policy_ids o) i (by_body h i) (among_policies o i) k

of_three : (h o : SetParts) (i : List ℕ) →
    (is_in i (conflicting h o (has_policy h) (policy_ids o)) ≡ true)
    ⊎ (is_in i (conflicting h o (has_policy h) (body_ids o) ++ conflicting h o (has_body h) (policy_ids o)) ≡ true)
    → DifferAt h o i
of_three h o i (inl k) = clashes h o (has_policy h) (policy_ids o) i (by_policy h i) (among_policies o i) k
of_three h o i (inr k) = of_four h o i (split i (conflicting h o (has_policy h) (body_ids o))
    (conflicting h o (has_body h) (policy_ids o)) k)

of_two : (h o : SetParts) (i : List ℕ) →
    (is_in i (conflicting h o (has_body h) (body_ids o)) ≡ true)
    ⊎ (is_in i (conflicting h o (has_policy h) (policy_ids o)
    ++ (conflicting h o (has_policy h) (body_ids o) ++ conflicting h o (has_body h) (policy_ids o))) ≡ true)
    → DifferAt h o i
of_two h o i (inl k) = clashes h o (has_body h) (body_ids o) i (by_body h i) (among_bodies o i) k
of_two h o i (inr k) =
    of_three h o i (split i (conflicting h o (has_policy h) (policy_ids o)) (conflicting h o (has_policy h) (body_ids o)
    ++ conflicting h o (has_body h) (policy_ids o)) k)

clash : (h o : SetParts) (i : List ℕ) → is_in i (conflicts h o) ≡ true → DifferAt h o i
clash h o i k =
    of_two h o i (split i (conflicting h o (has_body h) (body_ids o))
    (conflicting h o (has_policy h) (policy_ids o) ++ (conflicting h o (has_policy h) (body_ids o)
    ++ conflicting h o (has_body h) (policy_ids o)))
    (sym (in_gathered i _) ∙ k))

-- An id is in conflict exactly if both sets use it and bind it differently.
pub conflicts_differ : (h o : SetParts) (i : List ℕ) → (list_any (same_text i) (conflicts h o) ≡ true) ↔ DifferAt h o i
conflicts_differ h o i = (clash h o i, λ d. conflict_found h o i d.0 d.1 d.2)
