-- The comparison of parents, and the ancestors that another entity does not have.
use Rattle.std.specs.Prelude.{◌≡◌, Bool, true, false, not, ◌&&◌, ◌||◌, List, [], ◌∷◌, filter, Result, Ok, Err, IfOk}
use Rattle.std.proofs.Common.{ap, sym, refl, subst, inl, inr, ◌∙◌}
use Rattle.std.proofs.Math.Bool.{beq}
use Rattle.std.proofs.lemmas.Bool.{false≢true, and_parts, and_from, or_cases}
use Rattle.std.proofs.lemmas.Map.Views.{any-filter_same}
use Rattle.std.specs.Cmp.{booleans_Decides}
use Rattle.std.specs.List.{list_all}
use Rattle.std.specs.FinSet as set
use Rattle.std.specs.Set.{is_member}
use Rattle.cedar_ids.specs.UidOf.{same_uid, uid_order}
use Rattle.cedar_ids.specs.laws.UidOfLaws.{same_uid_decides, uid_order_total}
use Rattle.cedar_ids.specs.declared.entity.EntityUID.{EntityUID}
use Rattle.cedar_uid_sets.specs.UidSets.{UidValues, same_uids}
use Rattle.cedar_uid_sets.specs.laws.Sets.{contains_listed, same_members, same_uids_decides}
use Rattle.cedar_entity.specs.Listing.{Lists, ListsAncestors}
use Rattle.cedar_entity.specs.View.{EntityView, has_ancestor, overlap, IsDeepEqual}
use Rattle.cedar_entity.specs.laws.Views.{ancestors_listed}
use Rattle.cedar_entity_diff.specs.Diffs.{ancestors}
use Rattle.cedar_entity_diff.specs.laws.Listed.{agree_on, is_no_ancestor}

-- A test of all uids of a list is a test of each member.
all_from : (p : EntityUID → Bool) (us : List EntityUID) → ((q : EntityUID) → is_member same_uid us q ≡ true → p q ≡ true)
    → list_all p us ≡ true
all_from p [] h = refl
all_from p (u ∷ us) h =
    and_from (p u) (list_all p us)
    (h u (ap (λ b. b || is_member same_uid us u) ((same_uid_decides u u).1 refl)))
    (all_from p us (λ q m. h q (later (same_uid q u) m)))
  where
    later : {m : Bool} (b : Bool) → m ≡ true → (b || m) ≡ true
    later true h = refl
    later false h = h

each_of : (p : EntityUID → Bool) (us : List EntityUID) → list_all p us ≡ true → (q : EntityUID)
    → is_member same_uid us q ≡ true → p q ≡ true
each_of p [] h q m = absurd (false≢true m)
each_of p (u ∷ us) h q m =
    let parts = and_parts (p u) (list_all p us) h in
    elim (or_cases (same_uid q u) (is_member same_uid us q) m) [
      | inl e ↦ subst (λ x. p x ≡ true) (sym ((same_uid_decides q u).0 e)) parts.0
      | inr k ↦ each_of p us parts.1 q k
    ]

both_ways : (a b : Bool) → (a ≡ true → b ≡ true) → (b ≡ true → a ≡ true) → a ≡ b
both_ways true b h g = sym (h refl)
both_ways false true h g = g refl
both_ways false false h g = refl

module _ (a b : EntityView) (us vs : List EntityUID) (in_us : Lists a.parents us) (in_vs : Lists b.parents vs) where
  in_overlap : (e : EntityView) (q : EntityUID)
      → set.contains (overlap e) q ≡ (set.contains e.parents q && set.contains e.indirect q)
  in_overlap e q = set.contains-intersection uid_order_total e.parents e.indirect q

  agree : list_all (agree_on a b) us ≡ true → (q : EntityUID) → set.contains a.parents q ≡ true
      → (set.contains b.parents q ≡ true) × (set.contains a.indirect q ≡ set.contains b.indirect q)
  agree h q m =
      let p = and_parts (set.contains b.parents q) (beq (set.contains a.indirect q) (set.contains b.indirect q))
      (each_of (agree_on a b) us h q (in_us.members q ∙ m)) in
      (p.0, (booleans_Decides (set.contains a.indirect q) (set.contains b.indirect q)).0 p.1)

  agree_back : list_all (agree_on b a) vs ≡ true → (q : EntityUID) → set.contains b.parents q ≡ true
      → set.contains a.parents q ≡ true
  agree_back h q m =
      (and_parts (set.contains a.parents q) (beq (set.contains b.indirect q) (set.contains a.indirect q))
      (each_of (agree_on b a) vs h q (in_vs.members q ∙ m))).0

  only_parents : (p i j : Bool) → (p ≡ true → i ≡ j) → (p && i) ≡ (p && j)
  only_parents true i j h = h refl
  only_parents false i j h = refl

  same_overlap : a.parents ≡ b.parents
      → ((q : EntityUID) → set.contains a.parents q ≡ true → set.contains a.indirect q ≡ set.contains b.indirect q)
      → overlap a ≡ overlap b
  same_overlap e h = same_members (overlap a) (overlap b) (λ q.
      in_overlap a q
      ∙ only_parents (set.contains a.parents q) (set.contains a.indirect q) (set.contains b.indirect q) (h q)
      ∙ ap (λ (s : UidValues). set.contains s q && set.contains b.indirect q) e
      ∙ sym (in_overlap b q))

  same_parents : list_all (agree_on a b) us ≡ true → list_all (agree_on b a) vs ≡ true → a.parents ≡ b.parents
  same_parents h g = same_members a.parents b.parents (λ q.
      both_ways (set.contains a.parents q) (set.contains b.parents q) (λ m. (agree h q m).0) (agree_back g q))

  agrees_at : (q : EntityUID) → a.parents ≡ b.parents → overlap a ≡ overlap b → set.contains a.parents q ≡ true
      → (set.contains b.parents q ≡ true) × (set.contains a.indirect q ≡ set.contains b.indirect q)
  agrees_at q e o m =
      let n = ap (λ (s : UidValues). set.contains s q) (sym e) ∙ m in (
        n,
        sym (in_overlap a q ∙ ap (λ x. x && set.contains a.indirect q) m)
            ∙ ap (λ (s : UidValues). set.contains s q) o
            ∙ in_overlap b q
            ∙ ap (λ x. x && set.contains b.indirect q) n,
      )

  all_agree : a.parents ≡ b.parents → overlap a ≡ overlap b → list_all (agree_on a b) us ≡ true
  all_agree e o = all_from (agree_on a b) us (λ q m.
      let k = agrees_at q e o (sym (in_us.members q) ∙ m) in
      and_from (set.contains b.parents q) (beq (set.contains a.indirect q) (set.contains b.indirect q)) k.0
      ((booleans_Decides (set.contains a.indirect q) (set.contains b.indirect q)).1 k.1))

  all_agree_back : a.parents ≡ b.parents → overlap a ≡ overlap b → list_all (agree_on b a) vs ≡ true
  all_agree_back e o = all_from (agree_on b a) vs (λ q m.
      let n = ap (λ (s : UidValues). set.contains s q) e ∙ sym (in_vs.members q) ∙ m in
      and_from (set.contains a.parents q) (beq (set.contains b.indirect q) (set.contains a.indirect q)) n
      ((booleans_Decides (set.contains b.indirect q) (set.contains a.indirect q)).1 (sym (agrees_at q e o n).1)))

  -- Two entities agree on all parents of both exactly if they have the same parents, and the same parents that are also
  -- indirect ancestors.
  pub parents_agree : (list_all (agree_on a b) us && list_all (agree_on b a) vs)
      ≡ (same_uids a.parents b.parents && same_uids (overlap a) (overlap b))
  parents_agree = both_ways _ _
      (λ h. let p = and_parts (list_all (agree_on a b) us) (list_all (agree_on b a) vs) h in
      let e = same_parents p.0 p.1 in
      and_from (same_uids a.parents b.parents) (same_uids (overlap a) (overlap b))
      ((same_uids_decides a.parents b.parents).1 e)
      ((same_uids_decides (overlap a) (overlap b)).1 (same_overlap e (λ q m. (agree p.0 q m).1))))
      (λ h. let p = and_parts (same_uids a.parents b.parents) (same_uids (overlap a) (overlap b)) h in
      let e = (same_uids_decides a.parents b.parents).0 p.0 in
      let o = (same_uids_decides (overlap a) (overlap b)).0 p.1 in
      and_from (list_all (agree_on a b) us) (list_all (agree_on b a) vs) (all_agree e o) (all_agree_back e o))

swap : (a b : Bool) → (a && b) ≡ (b && a)
swap true true = refl
swap true false = refl
swap false true = refl
swap false false = refl

-- The set of the ancestors of an entity that another does not have.
pub without_ancestors : (a b : EntityView) (all : List EntityUID) → ListsAncestors a all
    → set.from_list (filter (is_no_ancestor b) all) ≡ set.difference (ancestors a) (ancestors b)
without_ancestors a b all lists = same_members _ _ (λ q.
    let in_b : set.contains (ancestors b) q ≡ has_ancestor b q =
    set.contains-union uid_order_total b.parents b.indirect q in
    contains_listed (filter (is_no_ancestor b) all) q
    ∙ any-filter_same (same_uid q) (is_no_ancestor b) (is_no_ancestor b q)
    (λ k h. ap (is_no_ancestor b) (sym ((same_uid_decides q k).0 h))) all
    ∙ swap (is_no_ancestor b q) (is_member same_uid all q)
    ∙ ap (λ x. x && is_no_ancestor b q) (ancestors_listed a all lists q
    ∙ sym (set.contains-union uid_order_total a.parents a.indirect q))
    ∙ ap (λ x. set.contains (ancestors a) q && not x) (sym in_b)
    ∙ sym (set.contains-difference uid_order_total (ancestors a) (ancestors b) q))

-- The same in the result of a call.
pub set_without : {E : Type 0} (a b : EntityView) (uids all : List EntityUID) → ListsAncestors a all
    → uids ≡ filter (is_no_ancestor b) all → (r : Result UidValues E) → IfOk r (λ s. s ≡ set.from_list uids)
    → IfOk r (λ s. s ≡ set.difference (ancestors a) (ancestors b))
set_without a b uids all lists is (Ok s) h =
    h ∙ ap (λ us. set.from_list {R = uid_order} us) is ∙ without_ancestors a b all lists
set_without a b uids all lists is (Err e) h = tt

same_indirect : (p i j : Bool) → (p && i) ≡ (p && j) → (p || i) ≡ (p || j) → i ≡ j
same_indirect true i j h k = h
same_indirect false i j h k = k

-- Two deeply equal entities with the same parents, and the same parents that are also indirect ancestors, are equal.
pub equal_from : (a b : EntityView) → IsDeepEqual a b
    → (same_uids a.parents b.parents && same_uids (overlap a) (overlap b)) ≡ true → a ≡ b
equal_from a b deep h =
    let p = and_parts (same_uids a.parents b.parents) (same_uids (overlap a) (overlap b)) h in
    let e = (same_uids_decides a.parents b.parents).0 p.0 in
    let o = (same_uids_decides (overlap a) (overlap b)).0 p.1 in
    let i : a.indirect ≡ b.indirect = same_members a.indirect b.indirect (λ q.
    same_indirect (set.contains a.parents q) (set.contains a.indirect q) (set.contains b.indirect q)
    (sym (set.contains-intersection uid_order_total a.parents a.indirect q)
    ∙ ap (λ (s : UidValues). set.contains s q) o
    ∙ set.contains-intersection uid_order_total b.parents b.indirect q
    ∙ ap (λ (s : UidValues). set.contains s q && set.contains b.indirect q) (sym e))
    (deep.ancestors q ∙ ap (λ (s : UidValues). set.contains s q || set.contains b.indirect q) (sym e))) in
    λ k. record { uid = deep.uid k; attrs = deep.attrs k; tags = deep.tags k; parents = e k; indirect = i k }
