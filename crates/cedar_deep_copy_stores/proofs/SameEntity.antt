-- Entities without ancestors to which parents and indirect ancestors are added. A copy is equal to its source.
use Rattle.std.specs.Prelude.{◌≡◌, Bool, true, false, not, ◌||◌, ◌&&◌, List, [], ◌∷◌, ◌++◌}
use Rattle.std.proofs.Common.{ap, sym, refl, subst, ◌∙◌, cond, inl, inr}
use Rattle.std.proofs.lemmas.Bool.{false≢true, or_cases}
use Rattle.std.proofs.lemmas.List.Folds.{list_any-append}
use Rattle.std.specs.FinSet as set
use Rattle.std.specs.List.{AllByRecursion}
use Rattle.std.specs.Ordering.{eq_by_cmp}
use Rattle.std.specs.Set.{is_member}
use Rattle.cedar_ids.specs.UidOf.{same_uid, uid_order}
use Rattle.cedar_ids.specs.laws.UidOfLaws.{same_uid_decides, same_uid_equiv, uid_order_total}
use Rattle.cedar_ids.specs.declared.entity.EntityUID.{EntityUID}
use Rattle.cedar_uid_sets.specs.UidSets.{UidValues}
use Rattle.cedar_uid_sets.specs.laws.Sets.{contains_listed, one_equal, same_members}
use Rattle.cedar_entity.specs.Listing.{Lists}
use Rattle.cedar_entity.specs.View.{EntityView}
use Rattle.cedar_entity_maps.specs.Plain.{HasDisjointParents}

and_false : (b : Bool) → (b && false) ≡ false
and_false true = refl
and_false false = refl

-- An empty set stays empty after the removal of a uid.
removed_none : (u : EntityUID) → set.remove (set.empty {R = uid_order}) u ≡ set.empty
removed_none u = same_members (set.remove set.empty u) set.empty (λ q.
    set.contains-remove uid_order_total set.empty u q
    ∙ ap (λ b. not (eq_by_cmp uid_order q u) && b) (set.contains-empty uid_order q)
    ∙ and_false (not (eq_by_cmp uid_order q u))
    ∙ sym (set.contains-empty uid_order q))

-- Adding the next parent to an entity extends the list of its parents by that uid.
pub parents_next : (first old new : EntityView) (ys : List EntityUID) (p : EntityUID) → first.indirect ≡ set.empty
    → old ≡ record first { parents = set.from_list ys } → new ≡ record old {
      parents = set.insert old.parents p;
      indirect = set.remove old.indirect p;
    }
    → new ≡ record first { parents = set.from_list (ys ++ p ∷ []) }
parents_next first old new ys p none so step =
    step
    ∙ ap (λ (e : EntityView). record e {
      parents = set.insert e.parents p;
      indirect = set.remove e.indirect p;
    }) so
    ∙ λ i. record first {
      parents = sym (set.from_list_push uid_order_total one_equal ys p) i;
      indirect = (ap (λ (s : UidValues). set.remove s p) none ∙ removed_none p ∙ sym none) i;
    }

-- An entity without parents has the parents of the empty list.
pub no_parents : (e : EntityView) → e.parents ≡ set.empty → e ≡ record e { parents = set.from_list [] }
no_parents e none = λ i. record e { parents = none i }

-- The parents are the uids of the list before it was sorted.
pub all_parents : (first new : EntityView) (ys ps : List EntityUID) (s : UidValues) → set.from_list ys ≡ s
    → s ≡ set.from_list ps → new ≡ record first { parents = set.from_list ys }
    → new ≡ record first { parents = set.from_list ps }
all_parents first new ys ps s sorted same so =
    so ∙ ap (λ (t : UidValues). record first { parents = t }) (sorted ∙ same)

-- The indirect ancestors are the added uids without the parents.
pub above_added : (old new : EntityView) (ks : List EntityUID) → old.indirect ≡ set.empty
    → new ≡ record old {
      indirect = set.union old.indirect (set.difference (set.from_list ks) old.parents);
    }
    → new ≡ record old { indirect = set.difference (set.from_list ks) old.parents }
above_added old new ks none so =
    let come = set.difference (set.from_list ks) old.parents in
    let alone : set.union old.indirect come ≡ come =
    same_members (set.union old.indirect come) come (λ q. set.contains-union uid_order_total old.indirect come q
    ∙ ap (λ b. b || set.contains come q)
    (ap (λ (s : UidValues). set.contains s q) none ∙ set.contains-empty uid_order q)) in
    so ∙ λ i. record old { indirect = alone i }

-- If a set has the members of us, and ks has the same members, the set of the list ks is that set.
pub listed_as : (s : UidValues) (us ks : List EntityUID) → Lists s us
    → ((q : EntityUID) → is_member same_uid ks q ≡ is_member same_uid us q) → set.from_list ks ≡ s
listed_as s us ks lists same =
    same_members (set.from_list ks) s (λ q. contains_listed ks q ∙ same q ∙ lists.members q)

listed_set : (s : UidValues) (us : List EntityUID) → Lists s us → set.from_list us ≡ s
listed_set s us lists = listed_as s us us lists (λ q. refl)

or_off : (b : Bool) → (b || false) ≡ b
or_off true = refl
or_off false = refl

or_last : (a k : Bool) → cond k true a ≡ (a || k)
or_last true true = refl
or_last true false = refl
or_last false true = refl
or_last false false = refl

-- A set extended by a uid contains the uids of the list extended by that uid.
pub put_next : (old new : Bool) (ys : List EntityUID) (k q : EntityUID) → old ≡ is_member same_uid ys q
    → new ≡ cond (same_uid k q) true old → new ≡ is_member same_uid (ys ++ k ∷ []) q
put_next old new ys k q so step =
    step ∙ ap (cond (same_uid k q) true) so ∙ or_last (is_member same_uid ys q) (same_uid k q)
    ∙ sym (list_any-append (same_uid q) ys (k ∷ [])
    ∙ ap (λ b. is_member same_uid ys q || b) (or_off (same_uid q k) ∙ sym (same_uid_equiv.symm k q)))

-- A property of each uid of a list is true of any uid in the list.
pub holds_of : (P : EntityUID → Type 0) (us : List EntityUID) (x : EntityUID) → AllByRecursion P us
    → is_member same_uid us x ≡ true → P x
holds_of P [] x all m = absurd (false≢true m)
holds_of P (u ∷ us) x all m = elim (or_cases (same_uid x u) (is_member same_uid us x) m) [
  | inl e ↦ subst P (sym ((same_uid_decides x u).0 e)) all.0
  | inr r ↦ holds_of P us x all.1 r
]

-- If two sets are disjoint, a uid of one is not in the other.
but_others : (p i : Bool) → (p ≡ true → i ≡ false) → (i && not p) ≡ i
but_others true i h = and_false i ∙ sym (h refl)
but_others false true h = refl
but_others false false h = refl

-- Removing the uids of a disjoint set leaves a set unchanged.
nothing_less : (s t : UidValues) → ((q : EntityUID) → set.contains t q ≡ true → set.contains s q ≡ false)
    → set.difference s t ≡ s
nothing_less s t none = same_members (set.difference s t) s (λ q.
    set.contains-difference uid_order_total s t q
    ∙ but_others (set.contains t q) (set.contains s q) (none q))

-- A copy with the same uid, fields, parents and indirect ancestors is equal to the entity.
pub same_entity : (e a b c : EntityView) (ps us : List EntityUID) → HasDisjointParents e → Lists e.parents ps → Lists e.indirect us
    → a.uid ≡ e.uid → a.attrs ≡ e.attrs → a.tags ≡ e.tags → b ≡ record a { parents = set.from_list ps }
    → c ≡ record b { indirect = set.difference (set.from_list us) b.parents } → c ≡ e
same_entity e a b c ps us apart parents above uid attrs tags first second =
    let whole : c ≡ record a {
      parents = set.from_list ps;
      indirect = set.difference (set.from_list us) (set.from_list ps);
    } =
    second ∙ ap (λ (x : EntityView). record x {
      indirect = set.difference (set.from_list us) x.parents;
    }) first in
    let over : set.from_list ps ≡ e.parents = listed_set e.parents ps parents in
    let far : set.difference (set.from_list us) (set.from_list ps) ≡ e.indirect =
    ap (λ (s : UidValues). set.difference s (set.from_list ps)) (listed_set e.indirect us above)
    ∙ ap (λ (s : UidValues). set.difference e.indirect s) over
    ∙ nothing_less e.indirect e.parents apart in
    whole ∙ λ i. record {
      uid = uid i;
      attrs = attrs i;
      tags = tags i;
      parents = over i;
      indirect = far i;
    }
