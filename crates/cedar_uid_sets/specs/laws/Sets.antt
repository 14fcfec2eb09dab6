-- Laws of membership and equality of sets of uids.
use Rattle.std.specs.Prelude.{◌≡◌, Bool, true, false, ◌&&◌, ◌||◌, ◌++◌, List}
use Rattle.std.proofs.Common.{ap, sym, refl, subst, ◌∙◌}
use Rattle.std.specs.Bool.{Decides}
use Rattle.std.specs.Cmp.{IsEquivalence, decided, first_so, second_so}
use Rattle.std.specs.Ordering.{eq_by_cmp, is_eq}
use Rattle.std.specs.List.{list_any}
use Rattle.std.specs.FinSet as set
use Rattle.std.specs.Set.{is_member}
use Rattle.std.proofs.lemmas.List.Folds.{list_any-append}
use Rattle.cedar_ids.specs.UidOf.{same_uid, uid_order}
use Rattle.cedar_ids.specs.laws.UidOfLaws.{uid_order_total, uid_order_ties, same_uid_decides}
use Rattle.cedar_ids.specs.declared.entity.EntityUID.{EntityUID}
use Rattle.cedar_uid_sets.specs.UidSets.{UidValues, same_uids}

pub one_equal : set.IsAntisymmetric uid_order
one_equal x y e = (same_uid_decides x y).0 (uid_order_ties x y ∙ ap is_eq e)

pub same_tests : eq_by_cmp uid_order ≡ same_uid
same_tests = λ i x y. sym (uid_order_ties x y) i

-- Two sets with the same members are equal.
pub same_members : (s t : UidValues) → ((q : EntityUID) → set.contains s q ≡ set.contains t q) → s ≡ t
same_members = set.same_set uid_order_total one_equal

-- The set created from a list has the members of the list.
pub contains_listed : (ks : List EntityUID) (q : EntityUID)
    → set.contains (set.from_list {R = uid_order} ks) q ≡ is_member same_uid ks q
contains_listed ks q = set.contains-from_list uid_order_total ks q ∙ ap (λ f. list_any (f q) ks) same_tests

-- Two lists with the same members create the same set.
pub same_listed : (ks ls : List EntityUID) → ((q : EntityUID) → is_member same_uid ks q ≡ is_member same_uid ls q)
    → set.from_list {R = uid_order} ks ≡ set.from_list ls
same_listed ks ls h = same_members _ _ (λ q. contains_listed ks q ∙ h q ∙ sym (contains_listed ls q))

-- The members of two appended lists are the members of both.
pub is_member-append : (ks ls : List EntityUID) (q : EntityUID)
    → is_member same_uid (ks ++ ls) q ≡ (is_member same_uid ks q || is_member same_uid ls q)
is_member-append ks ls q = list_any-append (same_uid q) ks ls

both_ways : (a b : Bool) → (a ≡ true → b ≡ true) → (b ≡ true → a ≡ true) → a ≡ b
both_ways true b h g = sym (h refl)
both_ways false true h g = g refl
both_ways false false h g = refl

-- `same_uids` decides whether two sets are equal.
pub same_uids_decides : (s t : UidValues) → Decides (same_uids s t) (s ≡ t)
same_uids_decides s t = (
  λ h. same_members s t (λ q. both_ways _ _ (set.is_subset-contains uid_order_total s t (first_so _ _ h) q)
      (set.is_subset-contains uid_order_total t s (second_so (set.is_subset s t) _ h) q)),
  λ e. subst (λ r. same_uids s r ≡ true) e (ap (λ b. b && b) (set.contains-is_subset uid_order_total s s (λ q h. h))),
)

pub same_uids_equiv : IsEquivalence same_uids
same_uids_equiv = decided same_uids same_uids_decides
