-- The comparison of parents, the collection of uids, and lists of the values at some uids.
use Rattle.std.specs.Prelude.{◌≡◌, Bool, true, false, cond, not, ◌&&◌, ◌||◌, List, [], ◌∷◌, map, filter_map, Option, Some, None}
use Rattle.std.proofs.Common.{ap, sym, refl, subst, ◌∙◌}
use Rattle.std.proofs.Math.Bool.{beq}
use Rattle.std.specs.List.{AllByRecursion, cons_option}
use Rattle.std.specs.List.Sorted.{IsStrictlySortedBy}
use Rattle.std.specs.Option.{IfSome}
use Rattle.std.specs.FinSet as set
use Rattle.std.specs.Set.{is_member}
use Rattle.std.specs.declared.cmp.Ordering.TheVariants.{Less}
use Rattle.cedar_ids.specs.UidOf.{same_uid, uid_order}
use Rattle.cedar_ids.specs.laws.UidOfLaws.{same_uid_decides}
use Rattle.cedar_ids.specs.declared.entity.EntityUID.{EntityUID}
use Rattle.cedar_uid_sets.specs.UidSets.{Ascend}
use Rattle.cedar_uid_sets.specs.laws.Sets.{same_tests}
use Rattle.cedar_entity.specs.View.{EntityView, has_ancestor}
use Rattle.cedar_entity_diff.specs.Diffs.{ListsAll, value_at}

-- Whether q is a parent of b, and an indirect ancestor of both entities or of neither.
abbrev pub agree_on : EntityView → EntityView → EntityUID → Bool
agree_on a b q = set.contains b.parents q && beq (set.contains a.indirect q) (set.contains b.indirect q)

-- Whether q is not an ancestor of the entity.
abbrev pub is_no_ancestor : EntityView → EntityUID → Bool
is_no_ancestor e q = not (has_ancestor e q)

-- Holds for the effect of appending the uid u to a list, unless P holds. No other uid is appended or removed.
pub record Pushes (us : List EntityUID) (u : EntityUID) (P : Type 0) (vs : List EntityUID) : Type 0 where
  pub stays : (q : EntityUID) → is_member same_uid vs q ≡ false → is_member same_uid us q ≡ false
  pub finds : is_member same_uid vs u ≡ false → P

module _ {X : Type 0} (key : X → EntityUID) (f : EntityUID → Option X) where
  -- Holds if each value of f is under its own uid.
  abbrev pub IsKeyedBy : Type 0
  IsKeyedBy = (u : EntityUID) → IfSome (f u) (λ x. key x ≡ u)

  abbrev Above : EntityUID → List EntityUID → Type 0
  Above u us = AllByRecursion (λ y. uid_order u y ≡ Less) us

  above_more : (o : Option X) (u v : EntityUID) (rest : List X) → IfSome o (λ x. key x ≡ v) → uid_order u v ≡ Less
      → Above u (map key rest) → Above u (map key (cons_option o rest))
  above_more None u v rest k l a = a
  above_more (Some x) u v rest k l a = (subst (λ y. uid_order u y ≡ Less) (sym k) l, a)

  all_above : IsKeyedBy → (u : EntityUID) (us : List EntityUID) → Above u us → Above u (map key (filter_map f us))
  all_above k u [] a = tt
  all_above k u (v ∷ us) a = above_more (f v) u v (filter_map f us) (k v) a.0 (all_above k u us a.1)

  ascend_more : (o : Option X) (u : EntityUID) (rest : List X) → IfSome o (λ x. key x ≡ u) → Above u (map key rest)
      → Ascend (map key rest) → Ascend (map key (cons_option o rest))
  unfolding IsStrictlySortedBy
  ascend_more None u rest k a s = s
  ascend_more (Some x) u rest k a s = (subst (λ y. Above y (map key rest)) (sym k) a, s)

  -- The values at ascending uids ascend.
  pub values_ascend : IsKeyedBy → (us : List EntityUID) → Ascend us → Ascend (map key (filter_map f us))
  unfolding IsStrictlySortedBy
  values_ascend k [] s = tt
  values_ascend k (u ∷ us) s =
      ascend_more (f u) u (filter_map f us) (k u) (all_above k u us s.0) (values_ascend k us s.1)

  absent_more : (b r : Bool) (x : Option X) → (b ≡ true → x ≡ None) → cond r x None ≡ cond (b || r) x None
  absent_more true true x h = refl
  absent_more true false x h = sym (h refl)
  absent_more false r x h = refl

  found_more : (b r : Bool) (x : Option X) (e : X) → (b ≡ true → x ≡ Some e)
      → cond b (Some e) (cond r x None) ≡ cond (b || r) x None
  found_more true r x e h = sym (h refl)
  found_more false r x e h = refl

  value_more : (o : Option X) (u q : EntityUID) (rest : List X) (r : Bool) → f u ≡ o → IfSome o (λ x. key x ≡ u)
      → value_at key rest q ≡ cond r (f q) None
      → value_at key (cons_option o rest) q ≡ cond (same_uid q u || r) (f q) None
  value_more None u q rest r is k h =
      h ∙ absent_more (same_uid q u) r (f q) (λ t. ap f ((same_uid_decides q u).0 t) ∙ is)
  value_more (Some x) u q rest r is k h =
      ap (λ t. cond (t q (key x)) (Some x) (value_at key rest q)) same_tests
      ∙ ap (λ y. cond (same_uid q y) (Some x) (value_at key rest q)) k
      ∙ ap (cond (same_uid q u) (Some x)) h
      ∙ found_more (same_uid q u) r (f q) x (λ t. ap f ((same_uid_decides q u).0 t) ∙ is)

  -- The value under a uid in the list of the values at some uids.
  pub value_listed : IsKeyedBy → (us : List EntityUID) (q : EntityUID)
      → value_at key (filter_map f us) q ≡ cond (is_member same_uid us q) (f q) None
  value_listed k [] q = refl
  value_listed k (u ∷ us) q =
      value_more (f u) u q (filter_map f us) (is_member same_uid us q) refl (k u) (value_listed k us q)

  listed_at : (b : Bool) (x : Option X) → (b ≡ false → x ≡ None) → cond b x None ≡ x
  listed_at true x h = refl
  listed_at false x h = sym (h refl)

  -- The values at ascending uids are all values, if there are no others.
  pub lists_all : IsKeyedBy → (us : List EntityUID) → Ascend us
      → ((q : EntityUID) → is_member same_uid us q ≡ false → f q ≡ None) → (L : List X) → L ≡ filter_map f us
      → ListsAll key f L
  lists_all k us s none L is = record {
    ascending = subst (λ l. Ascend (map key l)) (sym is) (values_ascend k us s);
    at =
        λ q. ap (λ l. value_at key l q) is ∙ value_listed k us q
        ∙ listed_at (is_member same_uid us q) (f q) (none q);
  }
