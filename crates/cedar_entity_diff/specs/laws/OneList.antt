-- Only one list has exactly the values of a function, each under its uid, in ascending order.
use Rattle.std.specs.Prelude.{◌≡◌, Bool, true, false, cond, List, [], ◌∷◌, map, Option, Some, None, is_some}
use Rattle.std.proofs.Common.{ap, sym, refl, subst, ◌∙◌}
use Rattle.std.proofs.lemmas.Bool.{false≢true}
use Rattle.std.specs.List.{AllByRecursion}
use Rattle.std.specs.List.Sorted.{IsStrictlySortedBy}
use Rattle.std.specs.Option.{unwrap_or}
use Rattle.std.specs.Ordering.{eq_by_cmp, is_eq, ordering_reverse}
use Rattle.std.specs.declared.cmp.Ordering.TheVariants.{Less, Equal, Greater}
use Rattle.cedar_ids.specs.UidOf.{uid_order}
use Rattle.cedar_ids.specs.laws.UidOfLaws.{uid_order_total}
use Rattle.cedar_ids.specs.declared.entity.EntityUID.{EntityUID}
use Rattle.cedar_uid_sets.specs.UidSets.{Ascend}
use Rattle.cedar_uid_sets.specs.laws.Sets.{one_equal, same_tests}
use Rattle.cedar_ids.specs.laws.UidOfLaws.{same_uid_decides}
use Rattle.cedar_entity_diff.specs.Diffs.{ListsAll, value_at}

abbrev Above : EntityUID → List EntityUID → Type 0
Above u us = AllByRecursion (λ y. uid_order u y ≡ Less) us

through : (x y : EntityUID) (us : List EntityUID) → uid_order x y ≡ Less → Above y us → Above x us
through x y [] l a = tt
through x y (u ∷ us) l a = (uid_order_total.trans x y u l a.0, through x y us l a.1)

module _ {X : Type 0} (key : X → EntityUID) where
  none_above : (q : EntityUID) (L : List X) → Above q (map key L) → value_at key L q ≡ None
  none_above q [] a = refl
  none_above q (x ∷ L) a = ap (λ r. cond (is_eq r) (Some x) (value_at key L q)) a.0 ∙ none_above q L a.1

  first_value : (x : X) (L : List X) → value_at key (x ∷ L) (key x) ≡ Some x
  first_value x L =
      ap (λ t. cond (t (key x) (key x)) (Some x) (value_at key L (key x))) same_tests
      ∙ ap (λ b. cond b (Some x) (value_at key L (key x))) ((same_uid_decides (key x) (key x)).1 refl)

  differs : {A : Type 0} (x : X) → None ≡ Some x → A
  differs x e = absurd (false≢true (ap is_some e))

  tail_at : (b : Bool) (q : EntityUID) (x y : X) (L M : List X) → eq_by_cmp uid_order q (key x) ≡ b → key x ≡ key y
      → Above (key x) (map key L) → Above (key y) (map key M)
      → value_at key (x ∷ L) q ≡ value_at key (y ∷ M) q → value_at key L q ≡ value_at key M q
  tail_at true q x y L M is e a c h =
      let same : q ≡ key x = (same_uid_decides q (key x)).0 (ap (λ t. t q (key x)) (sym same_tests) ∙ is) in
      none_above q L (subst (λ u. Above u (map key L)) (sym same) a)
      ∙ sym (none_above q M (subst (λ u. Above u (map key M)) (sym (same ∙ e)) c))
  tail_at false q x y L M is e a c h =
      ap (λ b. cond b (Some x) (value_at key L q)) (sym is) ∙ h
      ∙ ap (λ u. cond (eq_by_cmp uid_order q u) (Some y) (value_at key M q)) (sym e)
      ∙ ap (λ b. cond b (Some y) (value_at key M q)) is

  first_same : (x y : X) (L M : List X) → key x ≡ key y
      → value_at key (x ∷ L) (key x) ≡ value_at key (y ∷ M) (key x) → x ≡ y
  first_same x y L M e h =
      ap (λ o. unwrap_or o x) (sym (first_value x L) ∙ h ∙ ap (value_at key (y ∷ M)) e ∙ first_value y M)

  -- Two ascending lists with the same values are equal.
  same_lists : (L M : List X) → Ascend (map key L) → Ascend (map key M)
      → ((q : EntityUID) → value_at key L q ≡ value_at key M q) → L ≡ M
  unfolding IsStrictlySortedBy
  same_lists [] [] s t h = refl
  same_lists [] (y ∷ M) s t h = differs y (h (key y) ∙ first_value y M)
  same_lists (x ∷ L) [] s t h = differs x (sym (h (key x)) ∙ first_value x L)
  same_lists (x ∷ L) (y ∷ M) s t h =
      elim (uid_order (key x) (key y)) as (λ r. uid_order (key x) (key y) ≡ r → x ∷ L ≡ y ∷ M) [
        | Less ↦ λ l. differs x (sym (none_above (key x) (y ∷ M) (l, through (key x) (key y) (map key M) l t.0))
            ∙ sym (h (key x)) ∙ first_value x L)
        | Equal ↦ λ l.
            let e = one_equal (key x) (key y) l in
            let first = first_same x y L M e (h (key x)) in
            let rest = same_lists L M s.1 t.1 (λ q.
            tail_at (eq_by_cmp uid_order q (key x)) q x y L M refl e s.0 t.0 (h q)) in
            λ i. first i ∷ rest i
        | Greater ↦ λ l.
            let k : uid_order (key y) (key x) ≡ Less =
            uid_order_total.antisymm (key y) (key x) ∙ ap ordering_reverse l in
            differs y (sym (none_above (key y) (x ∷ L) (k, through (key y) (key x) (map key L) k s.0))
            ∙ h (key y) ∙ first_value y M)
      ] refl

  -- Two lists of all values of a function are equal.
  pub one_list : (f : EntityUID → Option X) (L M : List X) → ListsAll key f L → ListsAll key f M → L ≡ M
  one_list f L M a b = same_lists L M a.ascending b.ascending (λ q. a.at q ∙ sym (b.at q))
