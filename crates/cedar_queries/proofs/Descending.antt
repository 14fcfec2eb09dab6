-- The lists of descendants.
use Rattle.std.specs.Prelude.{◌≡◌, ◌↔◌, ◌⊎◌, Bool, true, false, cond, List, [], filter, Result, Ok, Err, IfOk}
use Rattle.std.proofs.Common.{ap, sym, refl, subst, inl, inr, ◌∙◌, Vec, Global}
use Rattle.std.specs.FinMap as finmap
use Rattle.cedar_children.specs.Children.{IsDescendantOrSelf, is_parent}
use Rattle.cedar_children.specs.declared.children.Children.{Children}
use Rattle.std.proofs.lemmas.Bool.{and_parts, and_from}
use Rattle.std.proofs.lemmas.List.Kept.{IsStrictlySortedBy-filter}
use Rattle.std.proofs.lemmas.Map.Views.{any-filter_same}
use Rattle.std.specs.HashSet.{HashSet, contains}
use Rattle.std.specs.Set.{is_member}
use Rattle.cedar_graph.specs.Graph.{Reach}
use Rattle.cedar_ids.specs.Name.{NameParts}
use Rattle.cedar_ids.specs.UidOf.{same_uid, uid_order, uid_parts}
use Rattle.cedar_ids.specs.laws.NameLaws.{name_eq-Decides}
use Rattle.cedar_ids.specs.laws.UidOfLaws.{same_uid_decides}
use Rattle.cedar_ids.specs.declared.entity.EntityUID.{EntityUID}
use Rattle.cedar_uid_sets.specs.UidSets.{Ascend}
use Rattle.cedar_entity_maps.specs.Modes.{ancestry}
use Rattle.cedar_entity_maps.specs.Plain.{EntityMap}
use Rattle.cedar_entity_maps.specs.laws.Indexes.{HasChildren, IsPlainHeld, parentage}
use Rattle.cedar_queries.specs.Queries.{AreDescendants, AreDescendantsOfType, parent_graph}
use Rattle.cedar_queries.specs.laws.Searches.{has_type}
use Rattle.cedar_queries.proofs.FoundPaths.{held_reached}

-- The list of a set of the descendants, in order.
pub from_set : {S E : Type 0} (D : EntityMap) (u : EntityUID) (s : HashSet EntityUID S) (listed : List EntityUID)
    → listed ≡ s.keys → ((q : EntityUID) → (contains same_uid s q ≡ true) ↔ Reach (parent_graph D) q u)
    → (r : Result (Vec EntityUID Global) E) → IfOk r (λ v. Ascend v.items)
    → IfOk r (λ v. (q : EntityUID) → is_member same_uid v.items q ≡ is_member same_uid listed q)
    → IfOk r (λ v. AreDescendants D u v.items)
from_set D u s listed is says (Ok v) ascending same = record {
  ascending = ascending;
  members = λ q.
      let e = same q ∙ ap (λ l. is_member same_uid l q) is in
      (λ h. (says q).0 (sym e ∙ h), λ r. e ∙ (says q).1 r);
}
from_set D u s listed is says (Err e) ascending same = tt

-- The list of the entities that have an ancestor in a plain map, in order.
pub from_scan : {E : Type 0} (D : EntityMap) (u v : EntityUID) (found : List EntityUID) → IsPlainHeld D → v ≡ u
    → ((q : EntityUID) → is_member same_uid found q ≡ ancestry D q v)
    → (r : Result (Vec EntityUID Global) E) → IfOk r (λ v. Ascend v.items)
    → IfOk r (λ v. (q : EntityUID) → is_member same_uid v.items q ≡ is_member same_uid found q)
    → IfOk r (λ v. AreDescendants D u v.items)
from_scan D u v found plain is says (Ok w) ascending same = record {
  ascending = ascending;
  members = λ q.
      let e = same q ∙ says q ∙ ap (ancestry D q) is in
      (λ h. (held_reached D plain q u).1 (sym e ∙ h), λ r. e ∙ (held_reached D plain q u).0 r);
}
from_scan D u v found plain is says (Err e) ascending same = tt

-- The descendants that have a type.
pub of_type : (D : EntityMap) (u : EntityUID) (name : NameParts) (us : List EntityUID) → AreDescendants D u us
    → AreDescendantsOfType D u name (filter (has_type name) us)
of_type D u name us d = record {
  ascending = IsStrictlySortedBy-filter uid_order (has_type name) us d.ascending;
  members = λ q.
      let e = any-filter_same (same_uid q) (has_type name) (has_type name q)
      (λ k h. ap (has_type name) (sym ((same_uid_decides q k).0 h))) us in
      let says = name_eq-Decides (uid_parts q).name name in (
        λ h. let p = and_parts (has_type name q) (is_member same_uid us q) (sym e ∙ h) in
            ((d.members q).0 p.1, says.0 p.0),
        λ r. e ∙ and_from (has_type name q) (is_member same_uid us q) (says.1 r.1) ((d.members q).1 r.0),
      );
}

cond_itself : (b : Bool) → cond b true false ≡ b
cond_itself true = refl
cond_itself false = refl

-- The members of a set of one uid.
pub only_member : {S : Type 0} (s t : HashSet EntityUID S) (u q : EntityUID) → s.keys ≡ []
    → contains same_uid t q ≡ cond (same_uid u q) true (contains same_uid s q) → contains same_uid t q ≡ same_uid u q
only_member s t u q empty e =
    e ∙ ap (λ ks. cond (same_uid u q) true (is_member same_uid ks q)) empty ∙ cond_itself (same_uid u q)

-- A uid and its descendants, by an index of children.
pub below_one : {S H T E : Type 0} (D : EntityMap) (c : Children S H) (u v : EntityUID) (keys : List EntityUID)
    → HasChildren (parentage (finmap.get D)) c → ((q : EntityUID) → is_member same_uid keys q ≡ same_uid v q) → v ≡ u
    → (r : Result (HashSet EntityUID T) E)
    → IfOk r (λ s. (q : EntityUID) → (contains same_uid s q ≡ true) ↔ IsDescendantOrSelf (is_parent c) keys q)
    → IfOk r (λ s. (q : EntityUID) → (contains same_uid s q ≡ true) ↔ ((u ≡ q) ⊎ Reach (parent_graph D) q u))
below_one D c u v keys has only is (Ok s) says = λ q.
    let same : is_parent c ≡ parent_graph D = λ i a b. has b a i in (
      λ h. elim ((says q).0 h) [
        | inl m ↦ inl (sym is ∙ (same_uid_decides v q).0 (sym (only q) ∙ m))
        | inr r ↦
            inr (subst (λ G. Reach G q u) same
            (subst (λ w. Reach (is_parent c) q w) (sym ((same_uid_decides v r.0).0 (sym (only r.0) ∙ r.1)) ∙ is) r.2))
      ],
      λ h. (says q).1 (elim h [
        | inl e ↦ inl (only q ∙ (same_uid_decides v q).1 (is ∙ e))
        | inr r ↦ inr (
          v,
          only v ∙ (same_uid_decides v v).1 refl,
          subst (λ G. Reach G q v) (sym same) (subst (λ w. Reach (parent_graph D) q w) (sym is) r),
        )
      ]),
    )
below_one D c u v keys has only is (Err e) says = tt
