-- Laws of entities: deep equality and ancestors.
use Rattle.std.specs.Prelude.{◌≡◌, Bool, true, false, ◌||◌, List}
use Rattle.std.specs.Ordering.{is_lt}
use Rattle.std.proofs.Common.{refl, ap, sym, ◌∙◌}
use Rattle.std.specs.FinSet as set
use Rattle.std.specs.Set.{is_member}
use Rattle.cedar_ids.specs.UidOf.{same_uid, uid_order}
use Rattle.cedar_ids.specs.laws.UidOfLaws.{same_uid_decides}
use Rattle.cedar_ids.specs.declared.entity.EntityUID.{EntityUID}
use Rattle.cedar_graph.specs.Ascending.{RespectsEq}
use Rattle.cedar_uid_sets.specs.laws.Sets.{is_member-append}
use Rattle.cedar_uid_sets.specs.UidSets.{UidValues}
use Rattle.cedar_entity.specs.Listing.{ListsAncestors, ListsBoth}
use Rattle.cedar_entity.specs.View.{EntityView, IsDeepEqual, IsEquivalenceRelation, has_ancestor}

-- Holds if none of the uids is an ancestor.
abbrev pub AreNewTo : EntityView → List EntityUID → Type 0
AreNewTo e uids = (q : EntityUID) → is_member same_uid uids q ≡ true → has_ancestor e q ≡ false

-- Whether the first uid is less than the second.
abbrev pub uid_precedes : EntityUID → EntityUID → Bool
uid_precedes x y = is_lt (uid_order x y)

-- Equal uids are less than the same uids.
pub uid_precedes_respects : RespectsEq same_uid uid_precedes
uid_precedes_respects x y u v h g =
    ap (λ z. uid_precedes z u) ((same_uid_decides x y).0 h) ∙ ap (uid_precedes y) ((same_uid_decides u v).0 g)

-- Deep equality is an equivalence relation.
pub deep_equality : IsEquivalenceRelation IsDeepEqual
deep_equality = record {
  itself = λ a. record { uid = refl; attrs = refl; tags = refl; ancestors = λ q. refl };
  turned = λ a b h. record {
    uid = sym h.uid;
    attrs = sym h.attrs;
    tags = sym h.tags;
    ancestors =
        λ q. sym (h.ancestors q);
  };
  joined = λ a b c h g. record {
    uid = h.uid ∙ g.uid;
    attrs = h.attrs ∙ g.attrs;
    tags = h.tags ∙ g.tags;
    ancestors =
        λ q. h.ancestors q ∙ g.ancestors q;
  };
}

-- If one of two equal uids is an ancestor, so is the other.
pub ancestors_respect : (e : EntityView) (x y : EntityUID) → same_uid x y ≡ true → has_ancestor e x ≡ has_ancestor e y
ancestors_respect e x y h = ap (has_ancestor e) ((same_uid_decides x y).0 h)

-- A parent is an ancestor.
pub parents_are_ancestors : (e : EntityView) (q : EntityUID) → set.contains e.parents q ≡ true → has_ancestor e q ≡ true
parents_are_ancestors e q h = ap (λ b. b || set.contains e.indirect q) h

-- A list of two sets has exactly their members.
pub members_of_both : {s t : UidValues} {us : List EntityUID} → ListsBoth s t us → (q : EntityUID)
    → is_member same_uid us q ≡ (set.contains s q || set.contains t q)
members_of_both l q = ap (λ xs. is_member same_uid xs q) l.in_turn ∙ is_member-append l.first l.others q
    ∙ λ i. l.parents.members q i || l.indirect.members q i

-- A list of the ancestors has exactly them as its members.
pub ancestors_listed : (e : EntityView) (us : List EntityUID) → ListsAncestors e us → (q : EntityUID)
    → is_member same_uid us q ≡ has_ancestor e q
ancestors_listed e us l q = members_of_both l q
