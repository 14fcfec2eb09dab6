-- Ascending uids after the insertion or the removal of a uid.
use Rattle.std.specs.Prelude.{◌≡◌, ◌⊎◌, ℕ, ◌<◌, ◌≤◌, Bool, true, false, not, ◌&&◌, ◌||◌, List, [], ◌∷◌, length, zero}
use Rattle.std.specs.Prelude.{suc, cond, ◌+◌}
use Rattle.std.proofs.Common.{ap, sym, refl, ◌∙◌, arith, subst, get_or, inl, inr}
use Rattle.std.specs.List.{insert, remove, AllByRecursion}
use Rattle.std.specs.List.Sorted.{IsStrictlySortedBy}
use Rattle.std.specs.declared.cmp.Ordering.TheVariants.{Less}
use Rattle.std.specs.FinSet as set
use Rattle.std.specs.Set.{is_member}
use Rattle.std.proofs.lemmas.Bool.{cases_lt}
use Rattle.std.specs.Ordering.{eq_by_cmp}
use Rattle.std.proofs.lemmas.Map.Keys.{sorted_head, sorted_tail}
use Rattle.cedar_ids.specs.UidOf.{uid_order, same_uid}
use Rattle.cedar_ids.specs.laws.UidOfLaws.{uid_order_total, same_uid_decides}
use Rattle.cedar_ids.specs.declared.entity.EntityUID.{EntityUID}
use Rattle.cedar_uid_sets.specs.UidSets.{Ascend, UidValues}
use Rattle.cedar_uid_sets.specs.laws.Sets.{contains_listed, same_tests, one_equal}
use Rattle.cedar_uid_sets.specs.laws.Places.{IsPlaceOf, IsGapFor}
use Rattle.cedar_uid_sets.proofs.Orders.{apart, apart_back}

-- A uid with a position is a member of the list.
pub one_same : (us : List EntityUID) (u : EntityUID) (i : ℕ) → i < length us → ((d : EntityUID) → get_or us i d ≡ u)
    → is_member same_uid us u ≡ true
one_same [] u i lt h = absurd (omega arith)
one_same (x ∷ us) u zero lt h = ap (λ b. b || is_member same_uid us u) ((same_uid_decides u x).1 (sym (h x)))
one_same (x ∷ us) u (suc i) lt h = ap (λ b. same_uid u x || b) (one_same us u i (omega arith) h)
    ∙ or_true (same_uid u x)
  where
    or_true : (b : Bool) → (b || true) ≡ true
    or_true true = refl
    or_true false = refl

none_same : (us : List EntityUID) (u : EntityUID)
    → ((j : ℕ) (d : EntityUID) → j < length us → same_uid u (get_or us j d) ≡ false) → is_member same_uid us u ≡ false
none_same [] u h = refl
none_same (x ∷ us) u h = ap (λ b. b || is_member same_uid us u) (h zero x (omega arith))
    ∙ none_same us u (λ j d lt. h (suc j) d (omega arith))

-- A uid with a position is in the set.
pub present : (us : List EntityUID) (u : EntityUID) (i : ℕ) → IsPlaceOf us u i
    → set.contains (set.from_list {R = uid_order} us) u ≡ true
present us u i p = contains_listed us u ∙ one_same us u i p.in_range p.here

-- A uid with a gap is not a member of the list.
pub not_in_gap : (us : List EntityUID) (u : EntityUID) (i : ℕ) → IsGapFor us u i → is_member same_uid us u ≡ false
not_in_gap us u i g = none_same us u (λ j d lt. by_side j d lt (cases_lt j i))
  where
    by_side : (j : ℕ) (d : EntityUID) → j < length us → (j < i) ⊎ (i ≤ j) → same_uid u (get_or us j d) ≡ false
    by_side j d lt (inl b) = apart_back u (get_or us j d) (g.below j d b)
    by_side j d lt (inr a) = apart u (get_or us j d) (g.above j d a lt)

-- A uid with a gap is not in the set.
pub absent : (us : List EntityUID) (u : EntityUID) (i : ℕ) → IsGapFor us u i
    → set.contains (set.from_list {R = uid_order} us) u ≡ false
absent us u i g = contains_listed us u ∙ not_in_gap us u i g

-- ---- Insertion

all_insert : (P : EntityUID → Type 0) (us : List EntityUID) (i : ℕ) (u : EntityUID) → AllByRecursion P us → P u
    → AllByRecursion P (insert us i u)
all_insert P us zero u h p = (p, h)
all_insert P [] (suc i) u h p = (p, tt)
all_insert P (x ∷ us) (suc i) u h p = (h.0, all_insert P us i u h.1 p)

all_above : (u : EntityUID) (us : List EntityUID)
    → ((j : ℕ) (d : EntityUID) → j < length us → uid_order u (get_or us j d) ≡ Less)
    → AllByRecursion (λ y. uid_order u y ≡ Less) us
all_above u [] h = tt
all_above u (x ∷ us) h = (h zero x (omega arith), all_above u us (λ j d lt. h (suc j) d (omega arith)))

tail_gap : (x : EntityUID) (us : List EntityUID) (u : EntityUID) (i : ℕ) → IsGapFor (x ∷ us) u (suc i) → IsGapFor us u i
tail_gap x us u i g = record {
  in_range = omega (arith, g.in_range);
  below = λ j d lt. g.below (suc j) d (omega arith);
  above = λ j d le lt. g.above (suc j) d (omega arith) (omega arith);
}

pub sorted_insert : (us : List EntityUID) (i : ℕ) (u : EntityUID) → IsGapFor us u i → Ascend us → Ascend (insert us i u)
unfolding IsStrictlySortedBy
sorted_insert us zero u g s = (all_above u us (λ j d lt. g.above j d (omega arith) lt), s)
sorted_insert [] (suc i) u g s = absurd (omega (arith, g.in_range))
sorted_insert (x ∷ us) (suc i) u g s = (
  all_insert (λ y. uid_order x y ≡ Less) us i u s.0 (g.below zero x (omega arith)),
  sorted_insert us i u (tail_gap x us u i g) s.1,
)

or_swap : (a b c : Bool) → (a || (b || c)) ≡ (b || (a || c))
or_swap true true c = refl
or_swap true false c = refl
or_swap false b c = refl

member_insert : (us : List EntityUID) (i : ℕ) (u q : EntityUID)
    → is_member same_uid (insert us i u) q ≡ (same_uid q u || is_member same_uid us q)
member_insert us zero u q = refl
member_insert [] (suc i) u q = refl
member_insert (x ∷ us) (suc i) u q = ap (λ b. same_uid q x || b) (member_insert us i u q)
    ∙ or_swap (same_uid q x) (same_uid q u) (is_member same_uid us q)

tests : (q u : EntityUID) (b : Bool) → (same_uid q u || b) ≡ (eq_by_cmp uid_order q u || b)
tests q u b = ap (λ f. f q u || b) (sym same_tests)

-- Inserting a uid into the list inserts it into the set.
pub set_insert : (us : List EntityUID) (i : ℕ) (u : EntityUID)
    → set.from_list {R = uid_order} (insert us i u) ≡ set.insert (set.from_list us) u
set_insert us i u = set.same_set uid_order_total one_equal _ _ (λ q.
    contains_listed (insert us i u) q ∙ member_insert us i u q
    ∙ ap (λ b. same_uid q u || b) (sym (contains_listed us q))
    ∙ tests q u (set.contains (set.from_list {R = uid_order} us) q)
    ∙ sym (set.contains-insert uid_order_total (set.from_list us) u q))

-- Inserting a member does not change the set.
pub set_insert_present : (s : UidValues) (u : EntityUID) → set.contains s u ≡ true → s ≡ set.insert s u
set_insert_present s u h = set.same_set uid_order_total one_equal _ _ (λ q.
    already q (same_uid q u) refl ∙ tests q u (set.contains s q) ∙ sym (set.contains-insert uid_order_total s u q))
  where
    already : (q : EntityUID) (b : Bool) → same_uid q u ≡ b → set.contains s q ≡ (b || set.contains s q)
    already q true e = ap (set.contains s) ((same_uid_decides q u).0 e) ∙ h
    already q false e = refl

-- ---- Removal

all_remove : (P : EntityUID → Type 0) (us : List EntityUID) (i : ℕ) → AllByRecursion P us
    → AllByRecursion P (remove us i)
all_remove P [] zero h = tt
all_remove P [] (suc i) h = tt
all_remove P (x ∷ us) zero h = h.1
all_remove P (x ∷ us) (suc i) h = (h.0, all_remove P us i h.1)

pub sorted_remove : (us : List EntityUID) (i : ℕ) → Ascend us → Ascend (remove us i)
unfolding IsStrictlySortedBy
sorted_remove [] zero s = s
sorted_remove [] (suc i) s = s
sorted_remove (x ∷ us) zero s = s.1
sorted_remove (x ∷ us) (suc i) s = (all_remove (λ y. uid_order x y ≡ Less) us i s.0, sorted_remove us i s.1)

at_place : (P : EntityUID → Type 0) (us : List EntityUID) (i : ℕ) (d : EntityUID) → i < length us → AllByRecursion P us
    → P (get_or us i d)
at_place P [] i d lt h = absurd (omega arith)
at_place P (x ∷ us) zero d lt h = h.0
at_place P (x ∷ us) (suc i) d lt h = at_place P us i d (omega arith) h.1

first_gone : (x : EntityUID) (us : List EntityUID) (q : EntityUID) (b : Bool) → same_uid q x ≡ b
    → AllByRecursion (λ y. uid_order x y ≡ Less) us
    → is_member same_uid us q ≡ (not b && (b || is_member same_uid us q))
first_gone x us q true e h =
    ap (is_member same_uid us) ((same_uid_decides q x).0 e)
    ∙ none_same us x (λ j d lt. apart x (get_or us j d) (at_place (λ y. uid_order x y ≡ Less) us j d lt h))
first_gone x us q false e h = refl

later_gone : (x u q : EntityUID) (r : Bool) (a b : Bool) → same_uid q x ≡ a → same_uid q u ≡ b → uid_order x u ≡ Less
    → (a || (not b && r)) ≡ (not b && (a || r))
later_gone x u q r a false s t l = refl
later_gone x u q r false true s t l = refl
later_gone x u q r true true s t l =
    sym (sym (apart x u l) ∙ ap (λ y. same_uid y u) (sym ((same_uid_decides q x).0 s)) ∙ t)

member_remove : (us : List EntityUID) (i : ℕ) (u q : EntityUID) → Ascend us → IsPlaceOf us u i
    → is_member same_uid (remove us i) q ≡ (not (same_uid q u) && is_member same_uid us q)
member_remove [] i u q s p = absurd (omega (arith, p.in_range))
member_remove (x ∷ us) zero u q s p =
    let is : u ≡ x = sym (p.here x) in
    first_gone x us q (same_uid q x) refl (sorted_head uid_order x us s)
    ∙ ap (λ y. not (same_uid q y) && (same_uid q x || is_member same_uid us q)) (sym is)
member_remove (x ∷ us) (suc i) u q s p =
    let q' : IsPlaceOf us u i = record { in_range = omega (arith, p.in_range); here = p.here } in
    let less : uid_order x u ≡ Less = subst (λ y. uid_order x y ≡ Less) (p.here x)
    (at_place (λ y. uid_order x y ≡ Less) us i x q'.in_range (sorted_head uid_order x us s)) in
    ap (λ b. same_uid q x || b) (member_remove us i u q (sorted_tail uid_order x us s) q')
    ∙ later_gone x u q (is_member same_uid us q) (same_uid q x) (same_uid q u) refl refl less

gone_tests : (q u : EntityUID) (b : Bool) → (not (same_uid q u) && b) ≡ (not (eq_by_cmp uid_order q u) && b)
gone_tests q u b = ap (λ f. not (f q u) && b) (sym same_tests)

-- Removing a uid from an ascending list removes it from the set.
pub set_remove : (us : List EntityUID) (i : ℕ) (u : EntityUID) → Ascend us → IsPlaceOf us u i
    → set.from_list {R = uid_order} (remove us i) ≡ set.remove (set.from_list us) u
set_remove us i u s p = set.same_set uid_order_total one_equal _ _ (λ q.
    contains_listed (remove us i) q ∙ member_remove us i u q s p
    ∙ ap (λ b. not (same_uid q u) && b) (sym (contains_listed us q))
    ∙ gone_tests q u (set.contains (set.from_list {R = uid_order} us) q)
    ∙ sym (set.contains-remove uid_order_total (set.from_list us) u q))

-- Removing a uid that is not a member does not change the set.
pub set_remove_absent : (s : UidValues) (u : EntityUID) → set.contains s u ≡ false → s ≡ set.remove s u
set_remove_absent s u h = set.same_set uid_order_total one_equal _ _ (λ q.
    not_there q (same_uid q u) refl ∙ gone_tests q u (set.contains s q)
    ∙ sym (set.contains-remove uid_order_total s u q))
  where
    not_there : (q : EntityUID) (b : Bool) → same_uid q u ≡ b → set.contains s q ≡ (not b && set.contains s q)
    not_there q true e = ap (set.contains s) ((same_uid_decides q u).0 e) ∙ h
    not_there q false e = refl

pub none_ascends : Ascend []
unfolding IsStrictlySortedBy
none_ascends = tt

-- The set of ascending uids has as many members as the list.
pub len_listed : (us : List EntityUID) → Ascend us → set.len (set.from_list {R = uid_order} us) ≡ length us
len_listed [] s = set.len-empty uid_order
len_listed (x ∷ us) s =
    let out : set.contains (set.from_list {R = uid_order} us) x ≡ false = contains_listed us x
    ∙ none_same us x
    (λ j d lt.
    apart x (get_or us j d) (at_place (λ y. uid_order x y ≡ Less) us j d lt (sorted_head uid_order x us s))) in
    set.len-insert uid_order_total (set.from_list us) x
    ∙ ap (λ b. cond b (set.len (set.from_list {R = uid_order} us)) (set.len (set.from_list {R = uid_order} us) + 1))
    out ∙ ap (λ n. n + 1) (len_listed us (sorted_tail uid_order x us s)) ∙ omega arith
