-- Ascending lists that create the same set are equal.
use Rattle.std.specs.Prelude.{◌≡◌, Bool, true, false, ◌||◌, List, [], ◌∷◌}
use Rattle.std.proofs.Common.{ap, sym, refl, subst, ◌∙◌}
use Rattle.std.specs.List.{AllByRecursion}
use Rattle.std.specs.Ordering.{ordering_reverse}
use Rattle.std.specs.declared.cmp.Ordering.{Ordering}
use Rattle.std.specs.declared.cmp.Ordering.TheVariants.{Less, Equal, Greater}
use Rattle.std.specs.FinSet as set
use Rattle.std.specs.Set.{is_member}
use Rattle.std.proofs.lemmas.Bool.{false≢true}
use Rattle.std.proofs.lemmas.Map.Keys.{sorted_head, sorted_tail}
use Rattle.cedar_ids.specs.UidOf.{uid_order, same_uid}
use Rattle.cedar_ids.specs.laws.UidOfLaws.{uid_order_total, same_uid_decides}
use Rattle.cedar_ids.specs.declared.entity.EntityUID.{EntityUID}
use Rattle.cedar_uid_sets.specs.UidSets.{Ascend}
use Rattle.cedar_uid_sets.specs.laws.Sets.{contains_listed}
use Rattle.cedar_uid_sets.proofs.Orders.{equal_is, turned}

self_less : (o : Ordering) → o ≡ ordering_reverse o → o ≡ Less → ⊥
self_less Less e h = cc
self_less Equal e h = cc
self_less Greater e h = cc

irreflexive : (u : EntityUID) → uid_order u u ≡ Less → ⊥
irreflexive u = self_less (uid_order u u) (uid_order_total.antisymm u u)

both_less : (x y : EntityUID) → uid_order x y ≡ Less → uid_order y x ≡ Less → ⊥
both_less x y a b = irreflexive x (uid_order_total.trans x y x a b)

same_itself : (u : EntityUID) → same_uid u u ≡ true
same_itself u = (same_uid_decides u u).1 refl

-- A property of all uids of a list is a property of each member.
of_member : (P : EntityUID → Type 0) (us : List EntityUID) (u : EntityUID) → AllByRecursion P us
    → is_member same_uid us u ≡ true → P u
of_member P [] u all h = absurd (false≢true h)
of_member P (x ∷ us) u all h = by_head (same_uid u x) refl (of_member P us u all.1) h
  where
    by_head : (b : Bool) → same_uid u x ≡ b → (is_member same_uid us u ≡ true → P u)
        → (b || is_member same_uid us u) ≡ true → P u
    by_head true e later h = subst P (sym ((same_uid_decides u x).0 e)) all.0
    by_head false e later h = later h

-- No member of an ascending list is less than the first.
least_head : (v : EntityUID) (vs : List EntityUID) (u : EntityUID) → Ascend (v ∷ vs)
    → is_member same_uid (v ∷ vs) u ≡ true → uid_order u v ≡ Less → ⊥
least_head v vs u s h l = by_head (same_uid u v) refl h
  where
    by_head : (b : Bool) → same_uid u v ≡ b → (b || is_member same_uid vs u) ≡ true → ⊥
    by_head true e h = irreflexive v (subst (λ x. uid_order x v ≡ Less) ((same_uid_decides u v).0 e) l)
    by_head false e h = both_less u v l (of_member (λ y. uid_order v y ≡ Less) vs u (sorted_head uid_order v vs s) h)

-- The first uid of an ascending list is not among the others.
first_once : (v : EntityUID) (vs : List EntityUID) (b : Bool) → Ascend (v ∷ vs) → is_member same_uid vs v ≡ b
    → b ≡ false
first_once v vs true s h =
    absurd (irreflexive v (of_member (λ y. uid_order v y ≡ Less) vs v (sorted_head uid_order v vs s) h))
first_once v vs false s h = refl

abbrev SameMembers : List EntityUID → List EntityUID → Type 0
SameMembers us vs = (q : EntityUID) → is_member same_uid us q ≡ is_member same_uid vs q

is_there : (u : EntityUID) (us : List EntityUID) → is_member same_uid (u ∷ us) u ≡ true
is_there u us = ap (λ b. b || is_member same_uid us u) (same_itself u)

same_head : (u v : EntityUID) (us vs : List EntityUID) → Ascend (u ∷ us) → Ascend (v ∷ vs)
    → SameMembers (u ∷ us) (v ∷ vs) → u ≡ v
same_head u v us vs s t h = by_order (uid_order u v) refl
  where
    by_order : (o : Ordering) → uid_order u v ≡ o → u ≡ v
    by_order Less e = absurd (least_head v vs u t (sym (h u) ∙ is_there u us) e)
    by_order Equal e = equal_is u v e
    by_order Greater e = absurd (least_head u us v s (h v ∙ is_there v vs) (turned u v e))

same_tails : (u : EntityUID) (us vs : List EntityUID) → Ascend (u ∷ us) → Ascend (u ∷ vs)
    → SameMembers (u ∷ us) (u ∷ vs) → SameMembers us vs
same_tails u us vs s t h q = by_head (same_uid q u) refl
  where
    by_head : (b : Bool) → same_uid q u ≡ b → is_member same_uid us q ≡ is_member same_uid vs q
    by_head true e =
        let here : q ≡ u = (same_uid_decides q u).0 e in
        ap (is_member same_uid us) here ∙ first_once u us _ s refl
        ∙ sym (ap (is_member same_uid vs) here ∙ first_once u vs _ t refl)
    by_head false e = ap (λ b. b || is_member same_uid us q) (sym e) ∙ h q ∙ ap (λ b. b || is_member same_uid vs q) e

same_lists : (us vs : List EntityUID) → Ascend us → Ascend vs → SameMembers us vs → us ≡ vs
same_lists [] [] s t h = refl
same_lists [] (v ∷ vs) s t h = absurd (false≢true (h v ∙ is_there v vs))
same_lists (u ∷ us) [] s t h = absurd (false≢true (sym (h u) ∙ is_there u us))
same_lists (u ∷ us) (v ∷ vs) s t h =
    let head : u ≡ v = same_head u v us vs s t h in
    let t' : Ascend (u ∷ vs) = subst (λ x. Ascend (x ∷ vs)) (sym head) t in
    let h' : SameMembers (u ∷ us) (u ∷ vs) = subst (λ x. SameMembers (u ∷ us) (x ∷ vs)) (sym head) h in
    λ i. head i ∷ same_lists us vs (sorted_tail uid_order u us s) (sorted_tail uid_order u vs t')
    (same_tails u us vs s t' h') i

-- Two ascending lists of the same set are equal.
pub one_listing : (us vs : List EntityUID) → Ascend us → Ascend vs → set.from_list {R = uid_order} us ≡ set.from_list vs
    → us ≡ vs
one_listing us vs s t e =
    same_lists us vs s t (λ q. sym (contains_listed us q) ∙ ap (λ r. set.contains r q) e ∙ contains_listed vs q)
