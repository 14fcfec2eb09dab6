-- The merged set satisfies the invariant of policy sets.
use Rattle.std.specs.Prelude.{◌≡◌, ℕ, List, [], ◌∷◌, ◌++◌, Bool, true, false, not, ◌||◌, Option, Some, None, refl}
use Rattle.std.specs.Prelude.{map}
use Rattle.std.proofs.Common.{sym, ap, ◌∙◌, cond, arith}
use Rattle.std.specs.List.{filter, find, list_any}
use Rattle.std.specs.Option.{option_eq, option_map, unwrap_or}
use Rattle.std.proofs.lemmas.Bool.{false≢true, or_parts}
use Rattle.std.proofs.lemmas.Grind.{common_steps}
use Rattle.std.proofs.lemmas.List.Folds.{list_any-append}
use Rattle.cedar_ids.specs.Texts.{same_text}
use Rattle.cedar_ids.specs.laws.TextLaws.{same_text_equiv, same_text_decides}
use Rattle.cedar_body.specs.Bodies.{BodyParts}
use Rattle.cedar_body.specs.laws.BodyLaws.{same_body_decides}
use Rattle.cedar_policy.specs.Policies.{PolicyParts, policy_id}
use Rattle.cedar_policy_maps.specs.PolicySets.{SetParts, is_bound, is_body_at, is_policy_at, AreOnce, IsHeldBy, IsHeld}
use Rattle.cedar_policy_maps.specs.PolicySets.{AreHeld, IsPolicySet, Binding, Static, Template, Link, bound_at, binding_from}
use Rattle.cedar_policy_merge.specs.Merge.{has_body, has_policy, same_binding, is_same_at, renamed_body, renamed_policy}
use Rattle.cedar_policy_merge.specs.Merge.{merged_bodies}
use Rattle.cedar_policy_merge.specs.Merge.{merged_policies, merged}
use Rattle.cedar_policy_maps.specs.laws.SetLaws.{template_at}
use Rattle.cedar_policy_maps.specs.laws.OnceLaws.{is_at, once-filter, find-unless}

-- The conditions on a renaming for a merge. Different ids of the other set get different ids. An id whose new id is in
-- use in this set is not renamed, and is bound equally in both sets.
pub record Renames (here other : SetParts) (c : List ℕ → List ℕ) : Type 0 where
  pub apart : (i j : List ℕ) → is_bound other i ≡ true → is_bound other j ≡ true → c i ≡ c j → i ≡ j
  pub kept : (i : List ℕ) → is_bound other i ≡ true → is_bound here (c i) ≡ true → (c i ≡ i)
      × (is_same_at here other i ≡ true)

-- ---- Lists

-- Whether all elements have a property.
abbrev pub AreAll : {X : Type 0} → (X → Type 0) → List X → Type 0
AreAll P [] = Unit {0}
AreAll P (x ∷ xs) = P x × AreAll P xs

pub all_weaken : {X : Type 0} (P Q : X → Type 0) (xs : List X) → ((x : X) → P x → Q x) → AreAll P xs → AreAll Q xs
all_weaken P Q [] h a = tt
all_weaken P Q (x ∷ xs) h a = (h x a.0, all_weaken P Q xs h a.1)

is_itself : (i : List ℕ) → same_text i i ≡ true
is_itself i = same_text_equiv.refl i

one_of : (a b : Bool) → b ≡ true → (a || b) ≡ true
one_of true b h = refl
one_of false b h = h

-- The id of each element is among the ids.
pub all_there : {A : Type 0} (id : A → List ℕ) (xs : List A) → AreAll (λ x. list_any (is_at id (id x)) xs ≡ true) xs
all_there id [] = tt
all_there id (x ∷ xs) = (
  ap (λ v. v || list_any (is_at id (id x)) xs) (is_itself (id x)),
  all_weaken (λ y. list_any (is_at id (id y)) xs ≡ true) (λ y. list_any (is_at id (id y)) (x ∷ xs)
      ≡ true) xs (λ y h. one_of (is_at id (id y) x) _ h) (all_there id xs),
)

body_id : BodyParts → List ℕ
body_id t = t.id

-- The ids of all bodies and policies of a set are in use.
pub bodies_bound : (b : SetParts) → AreAll (λ (t : BodyParts). is_bound b t.id ≡ true) b.bodies
bodies_bound b = all_weaken (λ (t : BodyParts). list_any (is_body_at t.id) b.bodies
    ≡ true) (λ (t : BodyParts). is_bound b t.id ≡ true) b.bodies (λ t h. one_of (has_policy b t.id) (has_body b t.id) h)
    (all_there (λ (t : BodyParts). t.id) b.bodies)

or_first : (a b : Bool) → a ≡ true → (a || b) ≡ true
or_first true b h = refl
or_first false b h = absurd (false≢true h)

pub policies_bound : (b : SetParts) → AreAll (λ p. is_bound b (policy_id p) ≡ true) b.policies
policies_bound b = all_weaken (λ p. list_any (is_policy_at (policy_id p)) b.policies
    ≡ true) (λ p. is_bound b (policy_id p) ≡ true) b.policies
    (λ p h. or_first (has_policy b (policy_id p)) (has_body b (policy_id p)) h) (all_there policy_id b.policies)

-- If the search finds an element, an element passes the test.
pub found_there : {X : Type 0} (t : X → Bool) (xs : List X) (x : X) → find t xs ≡ Some x → list_any t xs ≡ true
found_there t [] x h = absurd (cc)
found_there t (y ∷ ys) x h = grind (arith, common_steps, found_there t ys x)

pub body_bound : (b : SetParts) (i : List ℕ) (t : BodyParts) → find (is_body_at i) b.bodies ≡ Some t
    → is_bound b i ≡ true
body_bound b i t h = one_of (has_policy b i) (has_body b i) (found_there (is_body_at i) b.bodies t h)

-- Two ids are equal exactly if their new ids are.
pub same_renamed : (h o : SetParts) (c : List ℕ → List ℕ) → Renames h o c → (i j : List ℕ) → is_bound o i ≡ true
    → is_bound o j ≡ true → same_text (c i) (c j) ≡ same_text i j
same_renamed h o c r i j a b = alike (same_text (c i) (c j)) (same_text i j) refl refl
  where
    alike : (v w : Bool) → same_text (c i) (c j) ≡ v → same_text i j ≡ w → v ≡ w
    alike true true p q = refl
    alike false false p q = refl
    alike true false p q = sym (sym q ∙ ap (λ k. same_text i k)
        (sym (r.apart i j a b ((same_text_decides (c i) (c j)).0 p))) ∙ is_itself i)
    alike false true p q = sym p ∙ ap (λ k. same_text (c i) (c k)) (sym ((same_text_decides i j).0 q)) ∙ is_itself (c i)

-- ---- Renamed lists of a policy set

-- An id is among the ids of a list exactly if its new id is among the new ids.
pub any_renamed : {A : Type 0} (h o : SetParts) (c : List ℕ → List ℕ) (id : A → List ℕ) (f : A → A) → Renames h o c
    → ((x : A) → id (f x) ≡ c (id x)) →
    (i : List ℕ) → is_bound o i ≡ true → (xs : List A) → AreAll (λ x. is_bound o (id x) ≡ true) xs
    → list_any (is_at id (c i)) (map f xs) ≡ list_any (is_at id i) xs
any_renamed h o c id f r e i b [] a = refl
any_renamed h o c id f r e i b (x ∷ xs) a =
    (λ j. same_text (c i) (e x j) || any_renamed h o c id f r e i b xs a.1 j)
    ∙ ap (λ v. v || list_any (is_at id i) xs) (same_renamed h o c r i (id x) b a.0)

-- If the ids of a list are different, the new ids are too.
pub once_renamed : {A : Type 0} (h o : SetParts) (c : List ℕ → List ℕ) (id : A → List ℕ) (f : A → A) → Renames h o c
    → ((x : A) → id (f x) ≡ c (id x)) →
    (xs : List A) → AreAll (λ x. is_bound o (id x) ≡ true) xs → AreOnce id xs → AreOnce id (map f xs)
once_renamed h o c id f r e [] a u = tt
once_renamed h o c id f r e (x ∷ xs) a u = (
  ap (λ i. list_any (is_at id i) (map f xs)) (e x) ∙ any_renamed h o c id f r e (id x) a.0 xs a.1 ∙ u.0,
  once_renamed h o c id f r e xs a.1 u.1,
)

-- If no element passes a test, no element of a filtered list does.
any_kept : {A : Type 0} (p t : A → Bool) (xs : List A) → list_any t xs ≡ false → list_any t (filter p xs) ≡ false
any_kept p t [] h = refl
any_kept p t (x ∷ xs) h = grind (arith, common_steps, any_kept p t xs)

other_id : (h : SetParts) (i j : List ℕ) → is_bound h i ≡ true → is_bound h j ≡ false → (v : Bool) → same_text i j ≡ v
    → v ≡ false
other_id h i j b n false s = refl
other_id h i j b n true s = absurd (false≢true (sym n ∙ ap (is_bound h) (sym ((same_text_decides i j).0 s)) ∙ b))

not_left : {A : Type 0} (h : SetParts) (id : A → List ℕ) (i : List ℕ) → is_bound h i ≡ true → (x : A) (xs : List A)
    → (v : Bool) → is_bound h (id x) ≡ v → list_any (is_at id i) xs ≡ false →
    list_any (is_at id i) (cond (not v) (x ∷ xs) xs) ≡ false
not_left h id i b x xs true q n = n
not_left h id i b x xs false q n = ap (λ v. v || list_any (is_at id i) xs)
    (other_id h i (id x) b q (same_text i (id x)) refl) ∙ n

-- The new bodies and policies have no id that this set uses.
none_bound_left : {A : Type 0} (h : SetParts) (id : A → List ℕ) (i : List ℕ) → is_bound h i ≡ true → (xs : List A)
    → list_any (is_at id i) (filter (λ x. not (is_bound h (id x))) xs) ≡ false
none_bound_left h id i b [] = refl
none_bound_left h id i b (x ∷ xs) =
    not_left h id i b x (filter (λ x. not (is_bound h (id x))) xs) (is_bound h (id x)) refl
    (none_bound_left h id i b xs)

-- Two lists with different ids, which have no id in common, have different ids together.
once-append : {A : Type 0} (id : A → List ℕ) (xs ys : List A) → AreOnce id xs → AreOnce id ys
    → AreAll (λ x. list_any (is_at id (id x)) ys ≡ false) xs → AreOnce id (xs ++ ys)
once-append id [] ys u v a = v
once-append id (x ∷ xs) ys u v a = (
  list_any-append (is_at id (id x)) xs ys ∙ (λ j. u.0 j || a.0 j),
  once-append id xs ys u.1 v a.1,
)

found_first : {X : Type 0} (t : X → Bool) (w : Bool) (x : X) (xs : List X) → w ≡ true → t x ≡ true
    → find t (cond w (x ∷ xs) xs) ≡ Some x
found_first t true x xs k e = ap (λ v. cond v (Some x) (find t xs)) e
found_first t false x xs k e = absurd (false≢true k)

found_later : {X : Type 0} (t : X → Bool) (w : Bool) (x y : X) (xs : List X) → t x ≡ false → find t xs ≡ Some y
    → find t (cond w (x ∷ xs) xs) ≡ Some y
found_later t true x y xs e q = ap (λ v. cond v (Some x) (find t xs)) e ∙ q
found_later t false x y xs e q = q

found_head : {X : Type 0} (t : X → Bool) (x y : X) (xs : List X) → find t (x ∷ xs) ≡ Some y → t x ≡ true → x ≡ y
found_head t x y xs q e = grind (arith, common_steps)

found_tail : {X : Type 0} (t : X → Bool) (x y : X) (xs : List X) → find t (x ∷ xs) ≡ Some y → t x ≡ false
    → find t xs ≡ Some y
found_tail t x y xs q e = grind (arith, common_steps)

find_step : {A : Type 0} (c : List ℕ → List ℕ) (id : A → List ℕ) (f : A → A) (p : A
    → Bool) (i : List ℕ) (x y : A) (xs rest : List A) → same_text (c i) (id (f x)) ≡ same_text i (id x)
    → p (f y) ≡ true →
    find (is_at id i) (x ∷ xs) ≡ Some y → (find (is_at id i) xs ≡ Some y → find (is_at id (c i)) rest ≡ Some (f y))
    → (v : Bool) → same_text i (id x) ≡ v →
    find (is_at id (c i)) (cond (p (f x)) (f x ∷ rest) rest) ≡ Some (f y)
find_step c id f p i x y xs rest there k q later true s =
    let same = found_head (is_at id i) x y xs q s in
    found_first (is_at id (c i)) (p (f x)) (f x) rest (ap (λ z. p (f z)) same ∙ k) (there ∙ s)
    ∙ ap (λ z. Some (f z)) same
find_step c id f p i x y xs rest there k q later false s =
    found_later (is_at id (c i)) (p (f x)) (f x) (f y) rest (there ∙ s) (later (found_tail (is_at id i) x y xs q s))

-- An element that is found under an id is found under its new id after renaming and filtering.
pub find_renamed : {A : Type 0} (h o : SetParts) (c : List ℕ → List ℕ) (id : A → List ℕ) (f : A → A) (p : A → Bool)
    → Renames h o c → ((x : A) → id (f x) ≡ c (id x)) →
    (i : List ℕ) → is_bound o i ≡ true → (y : A) → p (f y) ≡ true → (xs : List A)
    → AreAll (λ x. is_bound o (id x) ≡ true) xs → find (is_at id i) xs ≡ Some y →
    find (is_at id (c i)) (filter p (map f xs)) ≡ Some (f y)
find_renamed h o c id f p r e i b y k [] a q = absurd (cc)
find_renamed h o c id f p r e i b y k (x ∷ xs) a q =
    find_step c id f p i x y xs (filter p (map f xs)) (ap (same_text (c i)) (e x)
    ∙ same_renamed h o c r i (id x) b a.0) k q
    (λ l. find_renamed h o c id f p r e i b y k xs a.1 l) (same_text i (id x)) refl

-- ---- The merged policy set

pub body_new : (c : List ℕ → List ℕ) (t : BodyParts) → (renamed_body c t).id ≡ c t.id
body_new c t = refl

policy_new_by : (o : Option (List ℕ)) (c : List ℕ → List ℕ) (i : List ℕ)
    → unwrap_or (option_map c o) (c i) ≡ c (unwrap_or o i)
policy_new_by None c i = refl
policy_new_by (Some l) c i = refl

pub policy_new : (c : List ℕ → List ℕ) (p : PolicyParts) → policy_id (renamed_policy c p) ≡ c (policy_id p)
policy_new c p = policy_new_by p.link c p.template.id

-- The new elements have none of the ids of this set.
apart_from : {A : Type 0} (h : SetParts) (id : A → List ℕ) (ys xs : List A)
    → AreAll (λ x. is_bound h (id x) ≡ true) xs →
    AreAll (λ x. list_any (is_at id (id x)) (filter (λ y. not (is_bound h (id y))) ys) ≡ false) xs
apart_from h id ys [] a = tt
apart_from h id ys (x ∷ xs) a = (none_bound_left h id (id x) a.0 ys, apart_from h id ys xs a.1)

pub bodies_once : (h o : SetParts) (c : List ℕ → List ℕ) → Renames h o c → IsPolicySet h → IsPolicySet o
    → AreOnce (λ (t : BodyParts). t.id) (merged h o c).bodies
bodies_once h o c r x y =
    once-append (λ (t : BodyParts). t.id) h.bodies (merged_bodies h c o.bodies) x.bodies_once
    (once-filter (λ (t : BodyParts). t.id) (λ t. not (is_bound h t.id)) (map (renamed_body c) o.bodies)
    (once_renamed h o c (λ (t : BodyParts). t.id) (renamed_body c) r (body_new c) o.bodies
    (bodies_bound o) y.bodies_once))
    (apart_from h (λ (t : BodyParts). t.id) (map (renamed_body c) o.bodies) h.bodies (bodies_bound h))

pub policies_once : (h o : SetParts) (c : List ℕ → List ℕ) → Renames h o c → IsPolicySet h → IsPolicySet o
    → AreOnce policy_id (merged h o c).policies
policies_once h o c r x y =
    once-append policy_id h.policies (merged_policies h c o.policies) x.policies_once
    (once-filter policy_id (λ p. not (is_bound h (policy_id p))) (map (renamed_policy c) o.policies)
    (once_renamed h o c policy_id (renamed_policy c) r (policy_new c) o.policies (policies_bound o) y.policies_once))
    (apart_from h policy_id (map (renamed_policy c) o.policies) h.policies (policies_bound h))

no_more : (a b : Bool) → a ≡ false → b ≡ false → (a || b) ≡ false
no_more a b p q = cc

-- If this set uses an id but has no body with it, the merged set has none either.
no_body_merged : (h o : SetParts) (c : List ℕ → List ℕ) (i : List ℕ) → is_bound h i ≡ true → has_body h i ≡ false
    → has_body (merged h o c) i ≡ false
no_body_merged h o c i b n =
    list_any-append (is_body_at i) h.bodies (merged_bodies h c o.bodies)
    ∙ no_more _ _ n (none_bound_left h (λ (t : BodyParts). t.id) i b (map (renamed_body c) o.bodies))

no_policy_merged : (h o : SetParts) (c : List ℕ → List ℕ) (i : List ℕ) → is_bound h i ≡ true → has_policy h i ≡ false
    → has_policy (merged h o c) i ≡ false
no_policy_merged h o c i b n =
    list_any-append (is_policy_at i) h.policies (merged_policies h c o.policies)
    ∙ no_more _ _ n (none_bound_left h policy_id i b (map (renamed_policy c) o.policies))

find_here : {X : Type 0} (t : X → Bool) (xs ys : List X) (x : X) → find t xs ≡ Some x → find t (xs ++ ys) ≡ Some x
find_here t [] ys x h = absurd (cc)
find_here t (y ∷ xs) ys x h = grind (arith, common_steps, find_here t xs ys x)

find_after : {X : Type 0} (t : X → Bool) (xs ys : List X) → list_any t xs ≡ false → find t (xs ++ ys) ≡ find t ys
find_after t [] ys h = refl
find_after t (y ∷ xs) ys h = grind (arith, common_steps, find_after t xs ys)

-- A policy that fits this set fits the merged set.
held_here : (l : Option (List ℕ)) (h o : SetParts) (c : List ℕ → List ℕ) (p : PolicyParts)
    → is_bound h (unwrap_or l p.template.id) ≡ true → IsHeldBy l h p → IsHeldBy l (merged h o c) p
held_here None h o c p b k = (
  k.0,
  k.1,
  find_here (is_body_at p.template.id) h.bodies
      (merged_bodies h c o.bodies) p.template k.2,
)
held_here (Some l) h o c p b k = (
  no_body_merged h o c l b k.0,
  find_here (is_body_at p.template.id) h.bodies (merged_bodies h c o.bodies) p.template k.1,
  no_policy_merged h o c p.template.id (body_bound h p.template.id p.template k.1) k.2,
  k.3,
)

all_held_here : (h o : SetParts) (c : List ℕ → List ℕ) (ps : List PolicyParts)
    → AreAll (λ p. is_bound h (policy_id p) ≡ true) ps → AreHeld h ps → AreHeld (merged h o c) ps
all_held_here h o c [] b k = tt
all_held_here h o c (p ∷ ps) b k = (held_here p.link h o c p b.0 k.0, all_held_here h o c ps b.1 k.1)

not_bound : (h : SetParts) (i : List ℕ) → is_bound h i ≡ false → (has_policy h i ≡ false) × (has_body h i ≡ false)
not_bound h i n = or_parts _ _ n

-- Assume that no policy of the other set has an id, and its new id is free in this set. Then no policy of the merged
-- set has the new id. The same is true for bodies.
no_policy_joined : (h o : SetParts) (c : List ℕ → List ℕ) (i : List ℕ) → Renames h o c → is_bound o i ≡ true
    → is_bound h (c i) ≡ false → has_policy o i ≡ false → has_policy (merged h o c) (c i) ≡ false
no_policy_joined h o c i r b n k =
    list_any-append (is_policy_at (c i)) h.policies (merged_policies h c o.policies)
    ∙ no_more _ _ (not_bound h (c i) n).0
    (any_kept (λ p. not (is_bound h (policy_id p))) (is_policy_at (c i)) (map (renamed_policy c) o.policies)
    (any_renamed h o c policy_id (renamed_policy c) r (policy_new c) i b o.policies (policies_bound o) ∙ k))

no_body_joined : (h o : SetParts) (c : List ℕ → List ℕ) (i : List ℕ) → Renames h o c → is_bound o i ≡ true
    → is_bound h (c i) ≡ false → has_body o i ≡ false → has_body (merged h o c) (c i) ≡ false
no_body_joined h o c i r b n k =
    list_any-append (is_body_at (c i)) h.bodies (merged_bodies h c o.bodies)
    ∙ no_more _ _ (not_bound h (c i) n).1
    (any_kept (λ t. not (is_bound h t.id)) (is_body_at (c i)) (map (renamed_body c) o.bodies)
    (any_renamed h o c (λ (t : BodyParts). t.id) (renamed_body c) r (body_new c) i b o.bodies (bodies_bound o) ∙ k))

-- A new body is found under its new id.
body_joined : (h o : SetParts) (c : List ℕ → List ℕ) (i : List ℕ) (t : BodyParts) → Renames h o c → i ≡ t.id
    → is_bound h (c i) ≡ false → find (is_body_at i) o.bodies ≡ Some t →
    find (is_body_at (c i)) (merged h o c).bodies ≡ Some (renamed_body c t)
body_joined h o c i t r e n f =
    find_after (is_body_at (c i)) h.bodies (merged_bodies h c o.bodies) (not_bound h (c i) n).1
    ∙ find_renamed h o c (λ (t : BodyParts). t.id) (renamed_body c) (λ t. not (is_bound h t.id)) r (body_new c) i
    (body_bound o i t f) t
    (ap (λ j. not (is_bound h (c j))) (sym e) ∙ ap not n) o.bodies (bodies_bound o) f

-- If an id is bound equally and belongs to a template of the other set, this set has the same template.
same_template : (x : Option Binding) (t : BodyParts) → option_eq same_binding x (Some (Template t)) ≡ true
    → x ≡ Some (Template t)
same_template None t e = absurd (false≢true e)
same_template (Some (Static u)) t e = absurd (false≢true e)
same_template (Some (Template u)) t e = ap (λ b. Some (Template b)) ((same_body_decides u t).0 e)
same_template (Some (Link l u d)) t e = absurd (false≢true e)

template_here : (h o : SetParts) (i : List ℕ) (t : BodyParts) → is_same_at h o i ≡ true
    → find (is_body_at i) o.bodies ≡ Some t → has_policy o i ≡ false
    → (find (is_body_at i) h.bodies ≡ Some t) × (has_policy h i ≡ false)
template_here h o i t s f n =
    let there : bound_at o i ≡ Some (Template t) =
    λ j. binding_from (find-unless (is_policy_at i) o.policies n j) (f j) in
    let here = template_at h i t (same_template (bound_at h i) t (ap (option_eq same_binding (bound_at h i)) (sym there)
    ∙ s)) in
    (here.1, here.0)

-- Whether the template of a new link is in the merged set under its new id, which is not the id of a policy.
abbrev TemplateJoins : SetParts → SetParts → (List ℕ → List ℕ) → BodyParts → Type 0
TemplateJoins h o c t = (find (is_body_at (c t.id)) (merged h o c).bodies ≡ Some (renamed_body c t))
    × (has_policy (merged h o c) (c t.id) ≡ false)

template_joins_by : (v : Bool) (h o : SetParts) (c : List ℕ → List ℕ) (t : BodyParts) → Renames h o c
    → find (is_body_at t.id) o.bodies ≡ Some t → has_policy o t.id ≡ false → is_bound h (c t.id) ≡ v
    → TemplateJoins h o c t
template_joins_by false h o c t r f n e = (
  body_joined h o c t.id t r refl e f,
  no_policy_joined h o c t.id r
      (body_bound o t.id t f) e n,
)
template_joins_by true h o c t r f n e =
    let k = r.kept t.id (body_bound o t.id t f) e in
    let b : is_bound h t.id ≡ true = ap (is_bound h) (sym k.0) ∙ e in
    let alike = template_here h o t.id t k.1 f n in
    let here : find (is_body_at t.id) (merged h o c).bodies ≡ Some t =
    find_here (is_body_at t.id) h.bodies (merged_bodies h c o.bodies) t alike.0 in (
      ap (λ i. find (is_body_at i) (merged h o c).bodies) k.0 ∙ here
          ∙ ap (λ i. Some (record {
            id = i;
            annotations = t.annotations;
            effect = t.effect;
            principal =
                t.principal;
            action = t.action;
            resource = t.resource;
            clause = t.clause;
          })) (sym k.0),
      ap (has_policy (merged h o c)) k.0 ∙ no_policy_merged h o c t.id b alike.1,
    )

-- A new policy fits the merged set.
held_joined : (l : Option (List ℕ)) (h o : SetParts) (c : List ℕ → List ℕ) (p : PolicyParts) → Renames h o c
    → is_bound o (unwrap_or l p.template.id) ≡ true → is_bound h (c (unwrap_or l p.template.id)) ≡ false →
    IsHeldBy l o p → IsHeldBy (option_map c l) (merged h o c) (record {
      template = renamed_body c p.template;
      link =
          option_map c p.link;
      env = p.env;
    })
held_joined None h o c p r b n k = (
  ap (λ (q : PolicyParts). record {
    template = renamed_body c p.template;
    link = option_map c q.link;
    env =
        q.env;
  }) k.0,
  k.1,
  body_joined h o c p.template.id p.template r refl n k.2,
)
held_joined (Some l) h o c p r b n k =
    let t = template_joins_by (is_bound h (c p.template.id)) h o c p.template r k.1 k.2 refl in
    (no_body_joined h o c l r b n k.0, t.0, t.1, k.3)

joined_by : (v : Bool) (h o : SetParts) (c : List ℕ → List ℕ) (p : PolicyParts) (qs : List PolicyParts) → Renames h o c
    → is_bound o (policy_id p) ≡ true → IsHeld o p → is_bound h (policy_id (renamed_policy c p)) ≡ v →
    AreHeld (merged h o c) qs → AreHeld (merged h o c) (cond (not v) (renamed_policy c p ∷ qs) qs)
joined_by true h o c p qs r b k e a = a
joined_by false h o c p qs r b k e a = (
  held_joined p.link h o c p r b (ap (is_bound h) (sym (policy_new c p))
      ∙ e) k,
  a,
)

all_held_joined : (h o : SetParts) (c : List ℕ → List ℕ) (ps : List PolicyParts) → Renames h o c
    → AreAll (λ p. is_bound o (policy_id p) ≡ true) ps → AreHeld o ps →
    AreHeld (merged h o c) (filter (λ p. not (is_bound h (policy_id p))) (map (renamed_policy c) ps))
all_held_joined h o c [] r b k = tt
all_held_joined h o c (p ∷ ps) r b k =
    joined_by (is_bound h (policy_id (renamed_policy c p))) h o c p _ r b.0 k.0 refl
    (all_held_joined h o c ps r b.1 k.1)

held-append : (b : SetParts) (ps qs : List PolicyParts) → AreHeld b ps → AreHeld b qs → AreHeld b (ps ++ qs)
held-append b [] qs h k = k
held-append b (p ∷ ps) qs h k = (h.0, held-append b ps qs h.1 k)

-- The merged set satisfies the invariant of policy sets.
pub merged_is_set : (h o : SetParts) (c : List ℕ → List ℕ) → Renames h o c → IsPolicySet h → IsPolicySet o
    → IsPolicySet (merged h o c)
merged_is_set h o c r x y = record {
  bodies_once = bodies_once h o c r x y;
  policies_once = policies_once h o c r x y;
  held = held-append (merged h o c) h.policies (merged_policies h c o.policies)
      (all_held_here h o c h.policies (policies_bound h) x.held)
      (all_held_joined h o c o.policies r (policies_bound o) y.held);
}
