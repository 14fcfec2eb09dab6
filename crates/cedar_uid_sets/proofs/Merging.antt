-- The merge of two ascending lists ascends and has the uids of both.
use Rattle.std.specs.Prelude.{◌≡◌, Bool, true, false, ◌||◌, List, [], ◌∷◌, ◌++◌, length}
use Rattle.std.proofs.Common.{ap, sym, refl, subst, ◌∙◌, arith}
use Rattle.std.specs.List.{AllByRecursion}
use Rattle.std.specs.List.Sorted.{IsStrictlySortedBy}
use Rattle.std.specs.declared.cmp.Ordering.{Ordering}
use Rattle.std.specs.declared.cmp.Ordering.TheVariants.{Less, Equal, Greater}
use Rattle.std.specs.FinSet as set
use Rattle.std.specs.Set.{is_member}
use Rattle.std.proofs.lemmas.Map.Keys.{sorted_head, sorted_tail}
use Rattle.cedar_ids.specs.UidOf.{uid_order, same_uid}
use Rattle.cedar_ids.specs.laws.UidOfLaws.{uid_order_total}
use Rattle.cedar_ids.specs.declared.entity.EntityUID.{EntityUID}
use Rattle.cedar_uid_sets.specs.UidSets.{Ascend, UidValues}
use Rattle.cedar_uid_sets.specs.laws.Merged.{by_order, below, above, merged}
use Rattle.cedar_uid_sets.specs.laws.Sets.{contains_listed, is_member-append, same_members}
use Rattle.cedar_uid_sets.proofs.Orders.{equal_is, turned}

-- ---- A property of all uids of both lists is a property of all uids of the merge

module _ (P : EntityUID → Type 0) where
  all_append : (us vs : List EntityUID) → AllByRecursion P us → AllByRecursion P vs → AllByRecursion P (us ++ vs)
  all_append [] vs h g = g
  all_append (u ∷ us) vs h g = (h.0, all_append us vs h.1 g)

  all_below_by : (o : Ordering) (x u : EntityUID) (xs : List EntityUID) → P x → AllByRecursion P (below u xs)
      → AllByRecursion P (by_order o (x ∷ below u xs) [] [])
  all_below_by Less x u xs p h = (p, h)
  all_below_by Equal x u xs p h = tt
  all_below_by Greater x u xs p h = tt

  all_below : (u : EntityUID) (us : List EntityUID) → AllByRecursion P us → AllByRecursion P (below u us)
  all_below u [] h = tt
  all_below u (x ∷ us) h = all_below_by (uid_order x u) x u us h.0 (all_below u us h.1)

  all_above_by : (o : Ordering) (x u : EntityUID) (xs : List EntityUID) → AllByRecursion P (x ∷ xs)
      → AllByRecursion P (above u xs) → AllByRecursion P (by_order o (above u xs) xs (x ∷ xs))
  all_above_by Less x u xs p h = h
  all_above_by Equal x u xs p h = p.1
  all_above_by Greater x u xs p h = p

  all_above : (u : EntityUID) (us : List EntityUID) → AllByRecursion P us → AllByRecursion P (above u us)
  all_above u [] h = tt
  all_above u (x ∷ us) h = all_above_by (uid_order x u) x u us h (all_above u us h.1)

  all_merged : (us vs : List EntityUID) → AllByRecursion P us → AllByRecursion P vs → AllByRecursion P (merged us vs)
  all_merged us [] h g = h
  all_merged us (v ∷ vs) h g =
      all_append (below v us) (v ∷ merged (above v us) vs) (all_below v us h) (
        g.0,
        all_merged (above v us) vs (all_above v us h) g.1,
      )

-- ---- Order

Above : EntityUID → List EntityUID → Type 0
Above u us = AllByRecursion (λ y. uid_order u y ≡ Less) us

-- Uids above the greater of two uids are above the lesser one.
lower : (x y : EntityUID) (us : List EntityUID) → uid_order x y ≡ Less → Above y us → Above x us
unfolding Above
lower x y [] l h = tt
lower x y (u ∷ us) l h = (uid_order_total.trans x y u l h.0, lower x y us l h.1)

ascend_above_by : (o : Ordering) (x u : EntityUID) (xs : List EntityUID) → Ascend (x ∷ xs) → Ascend (above u xs)
    → Ascend (by_order o (above u xs) xs (x ∷ xs))
ascend_above_by Less x u xs s h = h
ascend_above_by Equal x u xs s h = sorted_tail uid_order x xs s
ascend_above_by Greater x u xs s h = s

ascend_above : (u : EntityUID) (us : List EntityUID) → Ascend us → Ascend (above u us)
ascend_above u [] s = s
ascend_above u (x ∷ us) s = ascend_above_by (uid_order x u) x u us s (ascend_above u us (sorted_tail uid_order x us s))

-- The remaining uids after u are greater than u.
is_above_by : (o : Ordering) (x u : EntityUID) (xs : List EntityUID) → uid_order x u ≡ o → Ascend (x ∷ xs)
    → Above u (above u xs) → Above u (by_order o (above u xs) xs (x ∷ xs))
unfolding Above
is_above_by Less x u xs e s h = h
is_above_by Equal x u xs e s h = subst (λ y. Above y xs) (equal_is x u e) (sorted_head uid_order x xs s)
is_above_by Greater x u xs e s h = (turned x u e, lower u x xs (turned x u e) (sorted_head uid_order x xs s))

is_above : (u : EntityUID) (us : List EntityUID) → Ascend us → Above u (above u us)
unfolding Above
is_above u [] s = tt
is_above u (x ∷ us) s = is_above_by (uid_order x u) x u us refl s (is_above u us (sorted_tail uid_order x us s))

-- Ascending uids below u, then u, then ascending uids above u form an ascending list.
joined_by : (o : Ordering) (x u : EntityUID) (xs rest : List EntityUID) → uid_order x u ≡ o → Ascend (x ∷ xs)
    → Above u rest → Ascend (u ∷ rest) → Ascend (below u xs ++ u ∷ rest)
    → Ascend (by_order o (x ∷ below u xs) [] [] ++ u ∷ rest)
unfolding IsStrictlySortedBy Above
joined_by Less x u xs rest e s h t later = (
  all_append (λ y. uid_order x y ≡ Less) (below u xs) (u ∷ rest) (all_below (λ y. uid_order x y ≡ Less) u xs s.0) (
    e,
    lower x u rest e h,
  ),
  later,
)
joined_by Equal x u xs rest e s h t later = t
joined_by Greater x u xs rest e s h t later = t

joined : (u : EntityUID) (us rest : List EntityUID) → Ascend us → Above u rest → Ascend (u ∷ rest)
    → Ascend (below u us ++ u ∷ rest)
joined u [] rest s h t = t
joined u (x ∷ us) rest s h t =
    joined_by (uid_order x u) x u us rest refl s h t (joined u us rest (sorted_tail uid_order x us s) h t)

cons : (u : EntityUID) (us : List EntityUID) → Above u us → Ascend us → Ascend (u ∷ us)
unfolding IsStrictlySortedBy Above
cons u us h s = (h, s)

pub ascend_merged : (us vs : List EntityUID) → Ascend us → Ascend vs → Ascend (merged us vs)
unfolding Above
ascend_merged us [] s t = s
ascend_merged us (v ∷ vs) s t =
    let over : Above v (merged (above v us) vs) =
    all_merged (λ y. uid_order v y ≡ Less) (above v us) vs (is_above v us s) (sorted_head uid_order v vs t) in
    joined v us (merged (above v us) vs) s over
    (cons v _ over (ascend_merged (above v us) vs (ascend_above v us s) (sorted_tail uid_order v vs t)))

-- ---- Members

or_first : (a b r : Bool) → (a || (b || r)) ≡ ((a || b) || r)
or_first true b r = refl
or_first false b r = refl

or_between : (a b c r : Bool) → (b || ((a || c) || r)) ≡ ((a || c) || (b || r))
or_between true true c r = refl
or_between true false c r = refl
or_between false true true r = refl
or_between false true false r = refl
or_between false false c r = refl

or_twice : (a c r : Bool) → (a || (c || r)) ≡ ((a || c) || (a || r))
or_twice true c r = refl
or_twice false true r = refl
or_twice false false r = refl

parts_by : (o : Ordering) (x u q : EntityUID) (xs : List EntityUID) (r : Bool) → uid_order x u ≡ o →
    (is_member same_uid (below u xs) q || (same_uid q u || (is_member same_uid (above u xs) q || r)))
    ≡ (is_member same_uid xs q || (same_uid q u || r)) →
    (is_member same_uid (by_order o (x ∷ below u xs) [] []) q
    || (same_uid q u || (is_member same_uid (by_order o (above u xs) xs (x ∷ xs)) q || r)))
    ≡ (is_member same_uid (x ∷ xs) q || (same_uid q u || r))
parts_by Less x u q xs r e h = sym (or_first (same_uid q x) (is_member same_uid (below u xs) q) _)
    ∙ ap (λ b. same_uid q x || b) h ∙ or_first (same_uid q x) (is_member same_uid xs q) (same_uid q u || r)
parts_by Equal x u q xs r e h =
    or_twice (same_uid q u) (is_member same_uid xs q) r
    ∙ ap (λ y. (same_uid q y || is_member same_uid xs q) || (same_uid q u || r)) (sym (equal_is x u e))
parts_by Greater x u q xs r e h = or_between (same_uid q x) (same_uid q u) (is_member same_uid xs q) r

-- A list consists of the uids below u, of u, if u is in it, and of the uids above u.
parts : (u q : EntityUID) (us : List EntityUID) (r : Bool)
    → (is_member same_uid (below u us) q || (same_uid q u || (is_member same_uid (above u us) q || r)))
    ≡ (is_member same_uid us q || (same_uid q u || r))
parts u q [] r = refl
parts u q (x ∷ us) r = parts_by (uid_order x u) x u q us r refl (parts u q us r)

or_none : (b : Bool) → b ≡ (b || false)
or_none true = refl
or_none false = refl

member_merged : (us vs : List EntityUID) (q : EntityUID)
    → is_member same_uid (merged us vs) q ≡ (is_member same_uid us q || is_member same_uid vs q)
member_merged us [] q = or_none (is_member same_uid us q)
member_merged us (v ∷ vs) q =
    is_member-append (below v us) (v ∷ merged (above v us) vs) q
    ∙ ap (λ b. is_member same_uid (below v us) q || (same_uid q v || b)) (member_merged (above v us) vs q)
    ∙ parts v q us (is_member same_uid vs q)

or_turned : (a b : Bool) → (a || b) ≡ (b || a)
or_turned true true = refl
or_turned true false = refl
or_turned false true = refl
or_turned false false = refl

-- The set of the merge is the union of the sets.
pub set_merged : (us vs : List EntityUID)
    → set.from_list {R = uid_order} (merged us vs) ≡ set.union (set.from_list vs) (set.from_list us)
set_merged us vs = same_members _ _ (λ q.
    contains_listed (merged us vs) q ∙ member_merged us vs q
    ∙ or_turned (is_member same_uid us q) (is_member same_uid vs q)
    ∙ (λ i. sym (contains_listed vs q) i || sym (contains_listed us q) i)
    ∙ sym (set.contains-union uid_order_total (set.from_list vs) (set.from_list us) q))

-- The union of the empty set and another set is the other set.
pub union_none : (s t : UidValues) → s ≡ set.empty → t ≡ set.union s t
union_none s t none = same_members _ _ (λ q.
    ap (λ b. b || set.contains t q) (sym (ap (λ r. set.contains r q) none ∙ set.contains-empty uid_order q))
    ∙ sym (set.contains-union uid_order_total s t q))

pub union_with_none : (s : UidValues) (us : List EntityUID) → length us ≡ 0 → s ≡ set.union s (set.from_list us)
union_with_none s [] none = same_members _ _ (λ q.
    or_none (set.contains s q) ∙ ap (λ b. set.contains s q || b) (sym (set.contains-empty uid_order q))
    ∙ sym (set.contains-union uid_order_total s set.empty q))
union_with_none s (u ∷ us) none = absurd (omega (arith, none))
