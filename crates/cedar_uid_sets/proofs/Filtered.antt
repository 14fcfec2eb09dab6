-- Filtered lists of ascending uids.
use Rattle.std.specs.Prelude.{◌≡◌, ℕ, ◌+◌, ◌<◌, Bool, true, false, not, ◌&&◌, ◌||◌, List, [], ◌∷◌, length, take}
use Rattle.std.proofs.Common.{ap, sym, refl, ◌∙◌, get_or}
use Rattle.std.specs.Ordering.{eq_by_cmp}
use Rattle.std.specs.List.{filter, items_where_true, AllByRecursion}
use Rattle.std.specs.List.Sorted.{IsStrictlySortedBy}
use Rattle.std.specs.declared.cmp.Ordering.TheVariants.{Less}
use Rattle.std.specs.FinSet as set
use Rattle.std.specs.Set.{is_member}
use Rattle.std.proofs.lemmas.Map.Views.{any-filter_same}
use Rattle.std.proofs.lemmas.List.Folds.{list_any_more}
use Rattle.cedar_ids.specs.UidOf.{uid_order, same_uid}
use Rattle.cedar_ids.specs.laws.UidOfLaws.{uid_order_total, same_uid_decides}
use Rattle.cedar_ids.specs.declared.entity.EntityUID.{EntityUID}
use Rattle.cedar_uid_sets.specs.UidSets.{Ascend, UidValues}
use Rattle.cedar_uid_sets.specs.laws.Sets.{contains_listed, same_members, same_tests}

and_swap : (a b : Bool) → (a && b) ≡ (b && a)
and_swap true true = refl
and_swap true false = refl
and_swap false true = refl
and_swap false false = refl

abbrev pub is_other : UidValues → EntityUID → Bool
is_other t u = not (set.contains t u)

-- The members of a filtered list.
kept : (p : EntityUID → Bool) (us : List EntityUID) (q : EntityUID)
    → set.contains (set.from_list {R = uid_order} (filter p us)) q
    ≡ (p q && set.contains (set.from_list {R = uid_order} us) q)
kept p us q =
    contains_listed (filter p us) q
    ∙ any-filter_same (same_uid q) p (p q) (λ k h. ap p (sym ((same_uid_decides q k).0 h))) us
    ∙ ap (λ b. p q && b) (sym (contains_listed us q))

-- Keeping the uids that are not in another set results in the difference.
pub set_difference : (us : List EntityUID) (t : UidValues)
    → set.from_list {R = uid_order} (filter (is_other t) us) ≡ set.difference (set.from_list us) t
set_difference us t =
    same_members _ _ (λ q. kept (is_other t) us q ∙ and_swap (is_other t q) _
    ∙ sym (set.contains-difference uid_order_total (set.from_list us) t q))

out_more : (s a b : Bool) → (not b && (s && not a)) ≡ (s && not (a || b))
out_more true true true = refl
out_more true true false = refl
out_more true false true = refl
out_more true false false = refl
out_more false a true = refl
out_more false a false = refl

-- The difference with a list that has one more uid.
pub difference_more : (s : UidValues) (us : List EntityUID) (i : ℕ) (d : EntityUID) → i < length us
    → set.remove (set.difference s (set.from_list (take i us))) (get_or us i d)
    ≡ set.difference s (set.from_list (take (i + 1) us))
difference_more s us i d lt = same_members _ _ (λ q.
    set.contains-remove uid_order_total (set.difference s (set.from_list (take i us))) (get_or us i d) q
    ∙ ap (λ b. not (eq_by_cmp uid_order q (get_or us i d)) && b)
    (set.contains-difference uid_order_total s (set.from_list (take i us)) q
    ∙ ap (λ b. set.contains s q && not b) (contains_listed (take i us) q))
    ∙ ap (λ f. not (f q (get_or us i d)) && (set.contains s q && not (is_member same_uid (take i us) q))) same_tests
    ∙ out_more (set.contains s q) (is_member same_uid (take i us) q) (same_uid q (get_or us i d))
    ∙ ap (λ b. set.contains s q && not b) (sym (list_any_more (same_uid q) us i d lt)
    ∙ sym (contains_listed (take (i + 1) us) q))
    ∙ sym (set.contains-difference uid_order_total s (set.from_list (take (i + 1) us)) q))

-- The difference with the empty set is the set itself.
pub difference_none : (s : UidValues) → s ≡ set.difference s set.empty
difference_none s =
    same_members _ _ (λ q. none_out (set.contains s q)
    ∙ ap (λ b. set.contains s q && not b) (sym (set.contains-empty uid_order q))
    ∙ sym (set.contains-difference uid_order_total s set.empty q))
  where
    none_out : (b : Bool) → b ≡ (b && not false)
    none_out true = refl
    none_out false = refl

all_chosen : (P : EntityUID → Type 0) (bs : List Bool) (us : List EntityUID) → AllByRecursion P us
    → AllByRecursion P (items_where_true bs us)
all_chosen P [] us h = tt
all_chosen P (b ∷ bs) [] h = tt
all_chosen P (true ∷ bs) (u ∷ us) h = (h.0, all_chosen P bs us h.1)
all_chosen P (false ∷ bs) (u ∷ us) h = all_chosen P bs us h.1

-- A selection from ascending uids ascends.
pub ascend_chosen : (bs : List Bool) (us : List EntityUID) → Ascend us → Ascend (items_where_true bs us)
unfolding IsStrictlySortedBy
ascend_chosen [] us s = tt
ascend_chosen (b ∷ bs) [] s = tt
ascend_chosen (true ∷ bs) (u ∷ us) s = (all_chosen (λ y. uid_order u y ≡ Less) bs us s.0, ascend_chosen bs us s.1)
ascend_chosen (false ∷ bs) (u ∷ us) s = ascend_chosen bs us s.1

or_off : (b : Bool) → b ≡ (b || false)
or_off true = refl
or_off false = refl

-- The union with a list of no uids.
pub union_list_none : (s : UidValues) → s ≡ set.union s (set.from_list [])
union_list_none s = same_members _ _ (λ q.
    or_off (set.contains s q)
    ∙ ap (λ b. set.contains s q || b) (sym (contains_listed [] q))
    ∙ sym (set.contains-union uid_order_total s (set.from_list []) q))

in_more : (s a b : Bool) → (b || (s || a)) ≡ (s || (a || b))
in_more true a true = refl
in_more true a false = refl
in_more false true true = refl
in_more false true false = refl
in_more false false true = refl
in_more false false false = refl

-- The union with a list that has one more uid.
pub union_more : (s : UidValues) (us : List EntityUID) (i : ℕ) (d : EntityUID) → i < length us
    → set.insert (set.union s (set.from_list (take i us))) (get_or us i d)
    ≡ set.union s (set.from_list (take (i + 1) us))
union_more s us i d lt = same_members _ _ (λ q.
    set.contains-insert uid_order_total (set.union s (set.from_list (take i us))) (get_or us i d) q
    ∙ ap (λ b. eq_by_cmp uid_order q (get_or us i d) || b)
    (set.contains-union uid_order_total s (set.from_list (take i us)) q
    ∙ ap (λ b. set.contains s q || b) (contains_listed (take i us) q))
    ∙ ap (λ f. f q (get_or us i d) || (set.contains s q || is_member same_uid (take i us) q)) same_tests
    ∙ in_more (set.contains s q) (is_member same_uid (take i us) q) (same_uid q (get_or us i d))
    ∙ ap (λ b. set.contains s q || b) (sym (list_any_more (same_uid q) us i d lt) ∙ sym (contains_listed (take (i + 1) us) q))
    ∙ sym (set.contains-union uid_order_total s (set.from_list (take (i + 1) us)) q))

-- The union with the empty set.
pub union_empty : (s t : UidValues) → t ≡ set.empty → s ≡ set.union s t
union_empty s t none = same_members _ _ (λ q.
    or_off (set.contains s q)
    ∙ ap (λ b. set.contains s q || b) (sym (ap (λ (r : UidValues). set.contains r q) none ∙ set.contains-empty uid_order q))
    ∙ sym (set.contains-union uid_order_total s t q))
