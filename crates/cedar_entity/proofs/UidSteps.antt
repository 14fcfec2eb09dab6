-- Lists and sets of uids.
use Rattle.std.specs.Prelude.{◌≡◌, Bool, true, false, List, [], ◌∷◌, ◌++◌, ◌||◌}
use Rattle.std.proofs.Common.{ap, sym, refl, subst, ◌∙◌}
use Rattle.std.proofs.lemmas.Bool.{false≢true}
use Rattle.std.proofs.lemmas.Map.Keys.{IsDistinct-from_sorted}
use Rattle.std.specs.FinSet as set
use Rattle.std.specs.List.{AllByRecursion, IsDistinct}
use Rattle.std.specs.List.Sorted.{IsStrictlySortedBy}
use Rattle.std.specs.Set.{is_member}
use Rattle.std.specs.declared.cmp.Ordering.TheVariants.{Less}
use Rattle.cedar_ids.specs.UidOf.{same_uid, uid_order}
use Rattle.cedar_ids.specs.laws.UidOfLaws.{uid_order_total, same_uid_decides}
use Rattle.cedar_ids.specs.declared.entity.EntityUID.{EntityUID}
use Rattle.cedar_uid_sets.specs.UidSets.{Ascend, UidValues}
use Rattle.cedar_entity.specs.Listing.{Lists}
use Rattle.cedar_entity.specs.laws.UidOrder.{irreflexive}
use Rattle.cedar_uid_sets.specs.laws.Sets.{same_tests, contains_listed, is_member-append}

-- An ascending list with the members of a set lists the set.
pub lists_ascending : (s : UidValues) (us : List EntityUID)
    → ((q : EntityUID) → is_member same_uid us q ≡ set.contains s q) → Ascend us → Lists s us
lists_ascending s us h a =
    record { members = h; once = subst (λ t. IsDistinct t us) same_tests (IsDistinct-from_sorted uid_order us a) }

-- A case distinction on the operands of a disjunction.
pub either : (x y : Bool) {P : Type 0} → (x || y) ≡ true → (x ≡ true → P) → (y ≡ true → P) → P
either true y h f g = f refl
either false y h f g = g h

-- A uid less than all uids of a list is less than each member.
pub above_member : (u q : EntityUID) (us : List EntityUID) → AllByRecursion (λ y. uid_order u y ≡ Less) us
    → is_member same_uid us q ≡ true → uid_order u q ≡ Less
above_member u q [] h m = absurd (cc)
above_member u q (x ∷ xs) h m = either (same_uid q x) (is_member same_uid xs q) m
    (λ e. subst (λ z. uid_order u z ≡ Less) (sym ((same_uid_decides q x).0 e)) h.0)
    (λ k. above_member u q xs h.1 k)

same : (q k : EntityUID) → same_uid q k ≡ true → q ≡ k
same q k = (same_uid_decides q k).0

itself : (k : EntityUID) → same_uid k k ≡ true
itself k = (same_uid_decides k k).1 refl

absent : (u : EntityUID) (us : List EntityUID) (b : Bool) → is_member same_uid us u ≡ b
    → AllByRecursion (λ y. uid_order u y ≡ Less) us → b ≡ false
absent u us true e a = absurd (irreflexive u (above_member u u us a e))
absent u us false e a = refl

-- A uid less than all uids of a list is not in it.
not_in : (u : EntityUID) (us : List EntityUID) → AllByRecursion (λ y. uid_order u y ≡ Less) us
    → is_member same_uid us u ≡ false
not_in u us a = absent u us (is_member same_uid us u) refl a

heads : (u v : EntityUID) (us vs : List EntityUID) → AllByRecursion (λ y. uid_order u y ≡ Less) us
    → AllByRecursion (λ y. uid_order v y ≡ Less) vs → (same_uid u v || is_member same_uid vs u) ≡ true
    → (same_uid v u || is_member same_uid us v) ≡ true → u ≡ v
heads u v us vs a b h g = either (same_uid u v) (is_member same_uid vs u) h
    (λ e. same u v e)
    (λ k. either (same_uid v u) (is_member same_uid us v) g
    (λ e. sym (same v u e))
    (λ l. absurd (irreflexive u (uid_order_total.trans u v u (above_member u v us a l) (above_member v u vs b k)))))

tails : (x q : EntityUID) (us vs : List EntityUID) (b : Bool) → same_uid q x ≡ b → is_member same_uid us x ≡ false
    → is_member same_uid vs x ≡ false → (b || is_member same_uid us q) ≡ (b || is_member same_uid vs q)
    → is_member same_uid us q ≡ is_member same_uid vs q
tails x q us vs true e f g h = ap (is_member same_uid us) (same q x e) ∙ f ∙ sym g
    ∙ ap (is_member same_uid vs) (sym (same q x e))
tails x q us vs false e f g h = h

first_in : (u : EntityUID) (us : List EntityUID) → (same_uid u u || is_member same_uid us u) ≡ true
first_in u us = ap (λ b. b || is_member same_uid us u) (itself u)

-- Two ascending lists with the same members are equal.
pub same_ascending : (us vs : List EntityUID) → Ascend us → Ascend vs
    → ((q : EntityUID) → is_member same_uid us q ≡ is_member same_uid vs q) → us ≡ vs
unfolding IsStrictlySortedBy
same_ascending [] [] a b h = refl
same_ascending [] (v ∷ vs) a b h = absurd (false≢true (h v ∙ first_in v vs))
same_ascending (u ∷ us) [] a b h = absurd (false≢true (sym (h u) ∙ first_in u us))
same_ascending (u ∷ us) (v ∷ vs) a b h =
    let e : u ≡ v = heads u v us vs a.0 b.0 (sym (h u) ∙ first_in u us) (h v ∙ first_in v vs) in
    let rest : us ≡ vs = same_ascending us vs a.1 b.1
    (λ q. tails u q us vs (same_uid q u) refl (not_in u us a.0)
    (not_in u vs (subst (λ z. AllByRecursion (λ y. uid_order z y ≡ Less) vs) (sym e) b.0)) (h q
    ∙ ap (λ z. same_uid q z || is_member same_uid vs q) (sym e))) in
    λ i. e i ∷ rest i

-- The members of two appended lists are the members of both sets.
pub both_listed : (ps is : List EntityUID) (s t : UidValues) → set.from_list ps ≡ s → set.from_list is ≡ t
    → (q : EntityUID) → is_member same_uid (ps ++ is) q ≡ (set.contains s q || set.contains t q)
both_listed ps is s t f g q =
    is_member-append ps is q
    ∙ (λ i. (sym (contains_listed ps q) ∙ ap (λ v. set.contains v q) f) i
    || (sym (contains_listed is q) ∙ ap (λ v. set.contains v q) g) i)
