-- The union of two ascending lists of uids.
use Rattle.std.specs.Prelude.{◌≡◌, Bool, true, false, ◌||◌, List, [], ◌∷◌, length, ◌<◌}
use Rattle.std.proofs.Common.{arith, ap, sym, refl, subst, ◌∙◌}
use Rattle.std.specs.List.{AllByRecursion}
use Rattle.std.specs.List.Sorted.{IsStrictlySortedBy}
use Rattle.std.specs.Ordering.{match_ordering, ordering_reverse}
use Rattle.std.specs.Set.{is_member, sorted_merge, merge_step}
use Rattle.std.specs.declared.cmp.Ordering.{Ordering}
use Rattle.std.specs.declared.cmp.Ordering.TheVariants.{Less, Equal, Greater}
use Rattle.cedar_ids.specs.UidOf.{same_uid, uid_order}
use Rattle.cedar_ids.specs.laws.UidOfLaws.{uid_order_total}
use Rattle.cedar_ids.specs.declared.entity.EntityUID.{EntityUID}
use Rattle.cedar_uid_sets.specs.UidSets.{Ascend}
use Rattle.cedar_uid_sets.specs.laws.Sets.{one_equal}

-- The uids of both lists, in ascending order and without duplicates, if both lists are ascending.
abbrev pub union_of : List EntityUID → List EntityUID → List EntityUID
union_of us vs = sorted_merge uid_order true us vs

abbrev Above : EntityUID → List EntityUID → Type 0
Above x us = AllByRecursion (λ y. uid_order x y ≡ Less) us

by_rank : {A : Type 0} (P : A → Type 0) (o : Ordering) (a b c : A) → (o ≡ Less → P a) → (o ≡ Equal → P b)
    → (o ≡ Greater → P c) → P (match_ordering o a b c)
by_rank P Less a b c f g h = f refl
by_rank P Equal a b c f g h = g refl
by_rank P Greater a b c f g h = h refl

above_through : (x y : EntityUID) (us : List EntityUID) → uid_order x y ≡ Less → Above y us → Above x us
above_through x y [] l a = tt
above_through x y (u ∷ us) l a = (uid_order_total.trans x y u l a.0, above_through x y us l a.1)

under : (x y : EntityUID) → uid_order x y ≡ Greater → uid_order y x ≡ Less
under x y h = uid_order_total.antisymm y x ∙ ap ordering_reverse h

all_at : (P : EntityUID → Type 0) (x : EntityUID) (xs : List EntityUID) (on : List EntityUID → List EntityUID) → P x
    → AllByRecursion P xs → ((ys : List EntityUID) → AllByRecursion P ys → AllByRecursion P (on ys))
    → (ys : List EntityUID) → AllByRecursion P ys → AllByRecursion P (merge_step uid_order true x xs on ys)
all_at P x xs on p a h [] b = (p, a)
all_at P x xs on p a h (y ∷ ys) b = by_rank (AllByRecursion P) (uid_order x y) _ _ _ (λ _. (p, h (y ∷ ys) b))
    (λ _. (p, h ys b.1)) (λ _. (b.0, all_at P x xs on p a h ys b.1))

all_united : (P : EntityUID → Type 0) (us vs : List EntityUID) → AllByRecursion P us → AllByRecursion P vs
    → AllByRecursion P (union_of us vs)
all_united P [] vs a b = b
all_united P (x ∷ xs) vs a b = all_at P x xs (union_of xs) a.0 a.1 (λ zs. all_united P xs zs a.1) vs b

same_above : (x y : EntityUID) (ys : List EntityUID) → uid_order x y ≡ Equal → Above y ys → Above x ys
same_above x y ys e a = subst (λ z. Above z ys) (sym (one_equal x y e)) a

ascend_at : (x : EntityUID) (xs : List EntityUID) → Ascend (x ∷ xs)
    → ((ys : List EntityUID) → Ascend ys → Ascend (union_of xs ys)) → (ys : List EntityUID) → Ascend ys
    → Ascend (union_of (x ∷ xs) ys)
unfolding IsStrictlySortedBy
ascend_at x xs s h [] t = s
ascend_at x xs s h (y ∷ ys) t = by_rank (IsStrictlySortedBy uid_order) (uid_order x y) _ _ _
    (λ k. (all_united (λ z. uid_order x z ≡ Less) xs (y ∷ ys) s.0 (k, above_through x y ys k t.0), h (y ∷ ys) t))
    (λ k. (all_united (λ z. uid_order x z ≡ Less) xs ys s.0 (same_above x y ys k t.0), h ys t.1))
    (λ k. (
      all_united (λ z. uid_order y z ≡ Less) (x ∷ xs) ys
          (under x y k, above_through y x xs (under x y k) s.0) t.0,
      ascend_at x xs s h ys t.1,
    ))

-- The union of two ascending lists is ascending.
pub union_ascends : (us vs : List EntityUID) → Ascend us → Ascend vs → Ascend (union_of us vs)
unfolding IsStrictlySortedBy
union_ascends [] vs s t = t
union_ascends (x ∷ xs) vs s t = ascend_at x xs s (λ zs. union_ascends xs zs s.1) vs t

or_false : (b : Bool) → b ≡ (b || false)
or_false true = refl
or_false false = refl

or_assoc : (a b c : Bool) → (a || (b || c)) ≡ ((a || b) || c)
or_assoc true b c = refl
or_assoc false b c = refl

once : (t a b : Bool) → (t || (a || b)) ≡ ((t || a) || (t || b))
once true a b = refl
once false a b = refl

swap : (a b c : Bool) → (a || (b || c)) ≡ (b || (a || c))
swap true true c = refl
swap true false c = refl
swap false b c = refl

member_at : (q x : EntityUID) (xs : List EntityUID) → ((ys : List EntityUID)
    → is_member same_uid (union_of xs ys) q ≡ (is_member same_uid xs q || is_member same_uid ys q))
    → (ys : List EntityUID) → is_member same_uid (union_of (x ∷ xs) ys) q
    ≡ (is_member same_uid (x ∷ xs) q || is_member same_uid ys q)
member_at q x xs h [] = or_false (is_member same_uid (x ∷ xs) q)
member_at q x xs h (y ∷ ys) = by_rank (λ l. is_member same_uid l q
    ≡ (is_member same_uid (x ∷ xs) q || is_member same_uid (y ∷ ys) q)) (uid_order x y) _ _ _
    (λ k. ap (λ b. same_uid q x || b) (h (y ∷ ys)) ∙ or_assoc (same_uid q x) (is_member same_uid xs q)
    (is_member same_uid (y ∷ ys) q))
    (λ k. ap (λ b. same_uid q x || b) (h ys) ∙ once (same_uid q x) (is_member same_uid xs q) (is_member same_uid ys q)
    ∙ ap (λ z. is_member same_uid (x ∷ xs) q || (same_uid q z || is_member same_uid ys q)) (one_equal x y k))
    (λ k. ap (λ b. same_uid q y || b) (member_at q x xs h ys)
    ∙ swap (same_uid q y) (is_member same_uid (x ∷ xs) q) (is_member same_uid ys q))

-- The members of the union are the members of both lists.
pub union_has : (us vs : List EntityUID) (q : EntityUID)
    → is_member same_uid (union_of us vs) q ≡ (is_member same_uid us q || is_member same_uid vs q)
union_has [] vs q = refl
union_has (x ∷ xs) vs q = member_at q x xs (λ ys. union_has xs ys q) vs

alone : (us : List EntityUID) → union_of us [] ≡ us
alone [] = refl
alone (x ∷ xs) = refl

empty : (us : List EntityUID) → length us ≡ 0 → us ≡ []
empty [] h = refl
empty (u ∷ us) h = absurd (cc)

-- The next uid of the union if the other list is at its end.
pub first_alone : (us vs xs s : List EntityUID) (x : EntityUID) → union_of us vs ≡ s → us ≡ x ∷ xs → length vs ≡ 0
    → s ≡ x ∷ union_of xs vs
first_alone us vs xs s x e f g =
    sym e ∙ ap (λ l. union_of l vs) f ∙ ap (union_of (x ∷ xs)) (empty vs g)
    ∙ ap (λ l. x ∷ l) (sym (alone xs)) ∙ ap (λ l. x ∷ union_of xs l) (sym (empty vs g))

pub shorter : (s t : List EntityUID) (x : EntityUID) → s ≡ x ∷ t → length t < length s
shorter s t x e = omega (arith, ap length e)
