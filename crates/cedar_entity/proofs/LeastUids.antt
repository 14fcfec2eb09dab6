-- The least uid of a list that passes a test.
use Rattle.std.specs.Prelude.{◌≡◌, Bool, true, false, cond, List, [], ◌∷◌, ◌||◌, ◌&&◌, Option, Some, None, MatchOption}
use Rattle.std.proofs.Common.{ap, sym, refl, subst, inr, ◌∙◌}
use Rattle.std.proofs.lemmas.Bool.{false≢true}
use Rattle.std.specs.Cmp.{first_so, second_so}
use Rattle.std.specs.FinSet as set
use Rattle.std.specs.List.{find, AllByRecursion}
use Rattle.std.specs.List.Sorted.{IsStrictlySortedBy}
use Rattle.std.specs.Set.{is_member}
use Rattle.std.specs.declared.cmp.Ordering.TheVariants.{Less}
use Rattle.cedar_ids.specs.UidOf.{same_uid, uid_order}
use Rattle.cedar_ids.specs.laws.UidOfLaws.{uid_order_total, same_uid_decides}
use Rattle.cedar_ids.specs.declared.entity.EntityUID.{EntityUID}
use Rattle.cedar_uid_sets.specs.UidSets.{Ascend, UidValues}
use Rattle.cedar_entity.specs.laws.UidOrder.{irreflexive}
use Rattle.cedar_entity.specs.Least.{NonePasses}
use Rattle.cedar_entity.specs.laws.Least.{LeastOf}
use Rattle.cedar_entity.specs.Validity.{is_non_action_parent, is_non_action_ancestor, HasOnlyActionAncestors}
use Rattle.cedar_entity.specs.Validity.{IsLeastNonAction}
use Rattle.cedar_entity.specs.View.{EntityView}
use Rattle.cedar_entity.proofs.UidSteps.{either, above_member}

both : (x y : Bool) → x ≡ true → y ≡ true → (x && y) ≡ true
both x y h g = ap (λ b. b && y) h ∙ g

not_both : (x y : Bool) → (x ≡ true → y ≡ false) → (x && y) ≡ false
not_both true y h = h refl
not_both false y h = refl

same : (q k : EntityUID) → same_uid q k ≡ true → q ≡ k
same q k = (same_uid_decides q k).0

itself : (k : EntityUID) → same_uid k k ≡ true
itself k = (same_uid_decides k k).1 refl

left : (x y : Bool) → x ≡ true → (x || y) ≡ true
left x y h = ap (λ b. b || y) h

right : (x y : Bool) → y ≡ true → (x || y) ≡ true
right true y h = refl
right false y h = h

module _ (p : EntityUID → Bool) where
  -- Whether a uid is in the list and passes the test.
  abbrev passes : List EntityUID → EntityUID → Bool
  passes us q = is_member same_uid us q && p q

  none_more : (u : EntityUID) (us : List EntityUID) → p u ≡ false → NonePasses (passes us)
      → NonePasses (passes (u ∷ us))
  none_more u us f h q =
      not_both (same_uid q u || is_member same_uid us q) (p q) (λ m. either (same_uid q u) (is_member same_uid us q) m
      (λ e. ap p (same q u e) ∙ f)
      (λ k. ap (λ b. b && p q) (sym k) ∙ h q))

  at : (u : EntityUID) (us : List EntityUID) (b : Bool) (o : Option EntityUID) → p u ≡ b
      → AllByRecursion (λ y. uid_order u y ≡ Less) us → LeastOf (passes us) o
      → LeastOf (passes (u ∷ us)) (cond b (Some u) o)
  at u us true o e a h = record {
    passing =
        both (same_uid u u || is_member same_uid us u) (p u)
        (left (same_uid u u) (is_member same_uid us u) (itself u)) e;
    least =
        λ q r g. either (same_uid q u) (is_member same_uid us q)
        (first_so (same_uid q u || is_member same_uid us q) (p q) r)
        (λ s. irreflexive u (subst (λ z. uid_order z u ≡ Less) (same q u s) g))
        (λ k. irreflexive u (uid_order_total.trans u q u (above_member u q us a k) g));
  }
  at u us false None e a h = none_more u us e h
  at u us false (Some x) e a h = record {
    passing =
        both (same_uid x u || is_member same_uid us x) (p x)
        (right (same_uid x u) (is_member same_uid us x) (first_so (is_member same_uid us x) (p x) h.passing))
        (second_so (is_member same_uid us x) (p x) h.passing);
    least =
        λ q r g. either (same_uid q u) (is_member same_uid us q)
        (first_so (same_uid q u || is_member same_uid us q) (p q) r)
        (λ s. false≢true (sym e ∙ sym (ap p (same q u s))
        ∙ second_so (same_uid q u || is_member same_uid us q) (p q) r))
        (λ k. h.least q
        (both (is_member same_uid us q) (p q) k (second_so (same_uid q u || is_member same_uid us q) (p q) r)) g);
  }

  -- In an ascending list, the first uid that passes is the least one.
  pub first_least : (us : List EntityUID) → Ascend us → LeastOf (passes us) (find p us)
  unfolding IsStrictlySortedBy
  first_least [] h = λ q. refl
  first_least (u ∷ us) h = at u us (p u) (find p us) refl h.0 (first_least us h.1)

  -- The same for a list of the members of a set.
  pub first_least_of : (s : UidValues) (us : List EntityUID) (o : Option EntityUID)
      → ((q : EntityUID) → is_member same_uid us q ≡ set.contains s q) → Ascend us → o ≡ find p us
      → LeastOf (λ q. set.contains s q && p q) o
  first_least_of s us o h a e =
      subst (λ t. LeastOf t o) (λ i q. h q i && p q) (subst (LeastOf (passes us)) (sym e) (first_least us a))

-- If all parents are actions, the error names the least indirect ancestor that is not an action.
pub non_action_ancestor : (e : EntityView) (o : Option EntityUID) → NonePasses (is_non_action_parent e)
    → LeastOf (is_non_action_ancestor e) o → MatchOption o (HasOnlyActionAncestors e) (IsLeastNonAction e)
non_action_ancestor e None h g = (h, g)
non_action_ancestor e (Some a) h g = inr (h, g)
