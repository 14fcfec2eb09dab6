-- Entities without ancestors to which parents and indirect ancestors are added.
use Rattle.std.specs.Prelude.{◌≡◌, Bool, true, false, not, ◌||◌, ◌&&◌, List, [], ◌∷◌, ◌++◌}
use Rattle.std.proofs.Common.{ap, sym, refl, subst, ◌∙◌}
use Rattle.std.specs.FinSet as set
use Rattle.std.specs.Ordering.{eq_by_cmp}
use Rattle.cedar_ids.specs.UidOf.{uid_order}
use Rattle.cedar_ids.specs.laws.UidOfLaws.{uid_order_total}
use Rattle.cedar_ids.specs.declared.entity.EntityUID.{EntityUID}
use Rattle.cedar_uid_sets.specs.UidSets.{UidValues}
use Rattle.cedar_uid_sets.specs.laws.Sets.{one_equal, same_members}
use Rattle.cedar_entity.specs.View.{EntityView}
use Rattle.cedar_c_stores.specs.Contents.{IsEntityOf, EntityParts}
use Rattle.cedar_c_stores.specs.laws.Rows.{HasFields}

and_false : (b : Bool) → (b && false) ≡ false
and_false true = refl
and_false false = refl

-- An empty set stays empty after the removal of a uid.
removed_none : (u : EntityUID) → set.remove (set.empty {R = uid_order}) u ≡ set.empty
removed_none u = same_members (set.remove set.empty u) set.empty (λ q.
    set.contains-remove uid_order_total set.empty u q
    ∙ ap (λ b. not (eq_by_cmp uid_order q u) && b) (set.contains-empty uid_order q)
    ∙ and_false (not (eq_by_cmp uid_order q u))
    ∙ sym (set.contains-empty uid_order q))

-- Adding the next parent to an entity extends the list of its parents by that uid.
pub parents_next : (first old new : EntityView) (ys : List EntityUID) (p : EntityUID) → first.indirect ≡ set.empty
    → old ≡ record first { parents = set.from_list ys } → new ≡ record old {
      parents = set.insert old.parents p;
      indirect = set.remove old.indirect p;
    }
    → new ≡ record first { parents = set.from_list (ys ++ p ∷ []) }
parents_next first old new ys p none so step =
    step
    ∙ ap (λ (e : EntityView). record e {
      parents = set.insert e.parents p;
      indirect = set.remove e.indirect p;
    }) so
    ∙ λ i. record first {
      parents = sym (set.from_list_push uid_order_total one_equal ys p) i;
      indirect = (ap (λ (s : UidValues). set.remove s p) none ∙ removed_none p ∙ sym none) i;
    }

-- An entity without parents has the parents of the empty list.
pub no_parents : (e : EntityView) → e.parents ≡ set.empty → e ≡ record e { parents = set.from_list [] }
no_parents e none = λ i. record e { parents = none i }

-- The parents are the uids of the list before it was sorted.
pub all_parents : (first new : EntityView) (ys ps : List EntityUID) (s : UidValues) → set.from_list ys ≡ s
    → s ≡ set.from_list ps → new ≡ record first { parents = set.from_list ys }
    → new ≡ record first { parents = set.from_list ps }
all_parents first new ys ps s sorted same so =
    so ∙ ap (λ (t : UidValues). record first { parents = t }) (sorted ∙ same)

-- The indirect ancestors are the added uids without the parents.
pub above_added : (old new : EntityView) (ks : List EntityUID) → old.indirect ≡ set.empty
    → new ≡ record old {
      indirect = set.union old.indirect (set.difference (set.from_list ks) old.parents);
    }
    → new ≡ record old { indirect = set.difference (set.from_list ks) old.parents }
above_added old new ks none so =
    let come = set.difference (set.from_list ks) old.parents in
    let alone : set.union old.indirect come ≡ come =
    same_members (set.union old.indirect come) come (λ q. set.contains-union uid_order_total old.indirect come q
    ∙ ap (λ b. b || set.contains come q)
    (ap (λ (s : UidValues). set.contains s q) none ∙ set.contains-empty uid_order q)) in
    so ∙ λ i. record old { indirect = alone i }

-- With its fields, parents and indirect ancestors it is the entity with these parts.
pub entity_of : (s : EntityParts) (a b c : EntityView) → HasFields s.uid s.attrs s.tags a
    → b ≡ record a { parents = set.from_list s.parents }
    → c ≡ record b { indirect = set.difference (set.from_list s.above) b.parents } → IsEntityOf s c
entity_of s a b c has first second =
    subst (IsEntityOf s) (sym second)
    (subst (λ (x : EntityView). IsEntityOf s (record x {
      indirect = set.difference (set.from_list s.above) x.parents;
    })) (sym first)
    (record {
      uid = has.uid;
      attrs = has.attributes;
      tags = has.tag_fields;
      parents = refl;
      indirect = refl;
    }))
