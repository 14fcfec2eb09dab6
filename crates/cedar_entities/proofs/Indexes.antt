-- The listed children after one uid after another, and after a whole edit.
use Rattle.std.specs.Prelude.{◌≡◌, Bool, true, false, not, ◌&&◌, ◌||◌, List, Option, Some, None, map}
use Rattle.std.proofs.Common.{ap, sym, refl, subst, ◌∙◌}
use Rattle.std.proofs.lemmas.Map.Made.{is_member-filter}
use Rattle.std.proofs.lemmas.Bool.{and_parts}
use Rattle.std.specs.Option.{IfSome, option_map, is_some}
use Rattle.std.specs.HashMap.{HashMap}
use Rattle.std.specs.Set.{is_member}
use Rattle.std.specs.FinSet as set
use Rattle.std.specs.FinMap as finmap
use Rattle.cedar_ids.specs.UidOf.{same_uid}
use Rattle.cedar_ids.specs.laws.UidOfLaws.{same_uid_decides, same_uid_equiv}
use Rattle.cedar_ids.specs.declared.entity.EntityUID.{EntityUID}
use Rattle.cedar_entity.specs.View.{EntityView, UnchangedParts, unchanged_parts}
use Rattle.cedar_entity.specs.declared.node.SharedEntity.{SharedEntity}
use Rattle.cedar_children.specs.declared.children.Children.{Children}
use Rattle.cedar_entity_maps.specs.Edits.{overwrite, removed_all, uids_of}
use Rattle.cedar_entity_maps.specs.Modes.{computes, with_repair}
use Rattle.cedar_entity_maps.specs.Plain.{HaveNoIndirect, EntityMap, IsPlainStore, StoreView, input_of, keyed}
use Rattle.cedar_entities.specs.Present.{with_first}
use Rattle.cedar_entity_maps.specs.Affected.{inserted_in, is_affected, removed_from, IsEnded}
use Rattle.cedar_entity_maps.specs.declared.modes.EditRules.{EditRules}
use Rattle.cedar_entity_maps.specs.InputStore.{InputStore, added, deleted, overwritten}
use Rattle.cedar_entity_maps.specs.laws.EntityMap.{entity_at, held_map}
use Rattle.cedar_entity_maps.specs.laws.Indexes.{HasChildren, IsPlainHeld, is_parent_at, parentage}
use Rattle.cedar_entity_maps.specs.laws.Rows.{where_asked}
use Rattle.cedar_entity_maps.specs.laws.Seen.{stored}
use Rattle.cedar_entities.proofs.Adding.{added_same, settled_plain}
use Rattle.cedar_entity_maps.specs.laws.AnyOf.{is_none}
use Rattle.cedar_entity_maps.specs.laws.StaleUidLaws.{and_off}
use Rattle.cedar_entities.proofs.Overwriting.{over_plain}
use Rattle.cedar_entities.proofs.Removing.{mended_plain}

-- The parents are part of the unchanged content.
parent_kept : Option UnchangedParts → EntityUID → Bool
parent_kept None p = false
parent_kept (Some k) p = set.contains k.1.0.1 p

kept_parent : (o : Option EntityView) (p : EntityUID) → parent_kept (option_map unchanged_parts o) p ≡ is_parent_at o p
unfolding parent_kept
kept_parent None p = refl
kept_parent (Some e) p = refl

same_parents : (n o : Option EntityView) → option_map unchanged_parts n ≡ option_map unchanged_parts o → (p : EntityUID)
    → is_parent_at n p ≡ is_parent_at o p
same_parents n o same p = sym (kept_parent n p) ∙ ap (λ k. parent_kept k p) same ∙ kept_parent o p

or_off : (b : Bool) → (b || false) ≡ b
or_off true = refl
or_off false = refl

-- The children after an edit.
pub children_edited : (D M N : EntityMap) (removed : EntityUID → Bool) (A K J G : List EntityUID)
    (was mid : EntityUID → Option EntityView)
    → ((p q : EntityUID) → is_member same_uid A q ≡ false
    → is_parent_at (finmap.get M q) p ≡ (not (removed p) && is_parent_at (finmap.get D q) p))
    → ((q : EntityUID) → is_member same_uid K q ≡ is_member same_uid A q)
    → ((q : EntityUID) → is_member same_uid J q ≡ is_member same_uid A q)
    → ((q : EntityUID) → is_member same_uid G q ≡ removed q) → was ≡ finmap.get D → mid ≡ finmap.get M
    → ((q : EntityUID) → option_map unchanged_parts (finmap.get N q) ≡ option_map unchanged_parts (finmap.get M q)) → (p q : EntityUID)
    → ((not (is_member same_uid G p) && (not (is_member same_uid K q) && is_parent_at (was q) p))
    || (is_member same_uid J q && is_parent_at (mid q) p)) ≡ parentage (finmap.get N) p q
children_edited D M N removed A K J G was mid others left came goes old is keeps p q =
    at (is_member same_uid A q) refl ∙ sym (same_parents (finmap.get N q) (finmap.get M q) (keeps q) p)
  where
    at : (b : Bool) → is_member same_uid A q ≡ b
        → ((not (is_member same_uid G p) && (not (is_member same_uid K q) && is_parent_at (was q) p))
        || (is_member same_uid J q && is_parent_at (mid q) p)) ≡ is_parent_at (finmap.get M q) p
    at true t =
        (λ i. (not (goes p i) && (not ((left q ∙ t) i) && is_parent_at (was q) p))
        || ((came q ∙ t) i && is_parent_at (is i q) p))
        ∙ ap (λ b. b || is_parent_at (finmap.get M q) p) (and_off (not (removed p)))
    at false t =
        (λ i. (not (goes p i) && (not ((left q ∙ t) i) && is_parent_at (old i q) p))
        || ((came q ∙ t) i && is_parent_at (mid q) p))
        ∙ or_off (not (removed p) && is_parent_at (finmap.get D q) p) ∙ sym (others p q t)

-- The children after an addition.
pub children_in : (D N : EntityMap) (L : List EntityView) (A : List EntityUID) (mid : EntityUID → Option EntityView)
    → ((q : EntityUID) → is_member same_uid A q ≡ is_member same_uid (inserted_in D L) q)
    → ((p q : EntityUID) → is_parent_at (mid q) p ≡ is_parent_at (finmap.get (with_first D L) q) p)
    → ((q : EntityUID) → option_map unchanged_parts (finmap.get N q) ≡ option_map unchanged_parts (finmap.get (with_first D L) q))
    → (p q : EntityUID) → (parentage (finmap.get D) p q || (is_member same_uid A q && is_parent_at (mid q) p))
    ≡ parentage (finmap.get N) p q
children_in D N L A mid same is keeps p q = at (is_member same_uid (inserted_in D L) q) refl ∙ sym after
  where
    after : parentage (finmap.get N) p q ≡ is_parent_at (finmap.get (with_first D L) q) p
    after = same_parents (finmap.get N q) (finmap.get (with_first D L) q) (keeps q) p

    absent : is_member same_uid (inserted_in D L) q ≡ true → finmap.get D q ≡ None
    absent t =
        is_none (finmap.get D q) (not_true (is_some (finmap.get D q))
        (and_parts (is_member same_uid (uids_of L) q) (not (finmap.contains_key D q))
        (sym (is_member-filter same_uid_equiv (λ u. not (finmap.contains_key D u)) q
        (λ x e. ap (λ u. not (finmap.contains_key D u)) ((same_uid_decides q x).0 e)) (uids_of L)) ∙ t)).1)
      where
        not_true : (b : Bool) → not b ≡ true → b ≡ false
        not_true true h = sym h
        not_true false h = refl

    at : (b : Bool) → is_member same_uid (inserted_in D L) q ≡ b
        → (parentage (finmap.get D) p q || (is_member same_uid A q && is_parent_at (mid q) p))
        ≡ is_parent_at (finmap.get (with_first D L) q) p
    at true t = ap (λ o. is_parent_at o p || (is_member same_uid A q && is_parent_at (mid q) p)) (absent t)
        ∙ ap (λ b. b && is_parent_at (mid q) p) (same q ∙ t) ∙ is p q
    at false t = ap (λ b. parentage (finmap.get D) p q || (b && is_parent_at (mid q) p)) (same q ∙ t)
        ∙ or_off (parentage (finmap.get D) p q) ∙ ap (λ o. is_parent_at o p) (sym (added_same D L q t))

pub if_some : {X : Type 0} (P Q : X → Type 0) (o : Option X) → ((x : X) → P x → Q x) → IfSome o P → IfSome o Q
if_some P Q None f h = tt
if_some P Q (Some x) f h = f x h

-- If entities are overwritten in a plain store and the affected entities are closed, the store is plain again.
pub plain_over : (D : EntityMap) → IsPlainHeld D → (L : List EntityView) → HaveNoIndirect L → (row : EditRules) → computes row ≡ true
    → (N : EntityMap) → IsEnded row (is_affected D (uids_of L)) (overwrite D L) N → IsPlainHeld N
plain_over D entity_at L bare row now N s =
    let W = entity_at.0 in
    let S : StoreView = record { entities = N; partial = W.partial; known_plain = true } in (
      overwritten W (map input_of L),
      where_asked (computes row) (IsPlainStore (overwritten W (map input_of L)) S) now
          (over_plain W (record { entities = D; partial = W.partial; known_plain = true }) L entity_at.1 bare row S refl s),
    )

-- The same for an addition.
pub plain_in : (D : EntityMap) → IsPlainHeld D → (L : List EntityView) → HaveNoIndirect L → (row : EditRules) → computes row ≡ true
    → (N : EntityMap) → IsEnded row (is_affected D (inserted_in D L)) (with_first D L) N → IsPlainHeld N
plain_in D entity_at L bare row now N s =
    let W = entity_at.0 in
    let S : StoreView = record { entities = N; partial = W.partial; known_plain = true } in (
      added W (map input_of L),
      where_asked (computes row) (IsPlainStore (added W (map input_of L)) S) now
          (settled_plain W (record { entities = D; partial = W.partial; known_plain = true }) L entity_at.1 bare row S refl s),
    )

-- The same for a removal, in every mode.
pub plain_out : (D : EntityMap) → IsPlainHeld D → (U : List EntityUID) (row : EditRules) (N : EntityMap)
    → IsEnded (with_repair row) (is_affected D (removed_from D U)) (removed_all D U) N → IsPlainHeld N
plain_out D entity_at U row N s =
    let W = entity_at.0 in (
      deleted W U,
      mended_plain W (record { entities = D; partial = W.partial; known_plain = true }) U entity_at.1 row
          (record { entities = N; partial = W.partial; known_plain = true }) refl s,
    )

-- A store is plain whether it is partial or not.
pub plain_held : (W : InputStore) (S : StoreView) → IsPlainStore W S → IsPlainHeld S.entities
plain_held W S p = (
  W,
  record {
    partial = refl;
    holds = p.holds;
    keyed = p.keyed;
    reached = p.reached;
    apart = p.apart;
    acyclic = p.acyclic;
  },
)

-- A store with a plain entity map is the plain store of some input store.
pub plain_at : (S : StoreView) → IsPlainHeld S.entities → (W : InputStore) × IsPlainStore W S
plain_at S h = (
  record h.0 { partial = S.partial },
  record {
    partial = refl;
    holds = h.1.holds;
    keyed = h.1.keyed;
    reached = h.1.reached;
    apart = h.1.apart;
    acyclic = h.1.acyclic;
  },
)

-- The children in the map are the children in the entity map.
pub children_seen : {S T H : Type 0} (n : HashMap EntityUID SharedEntity T) (o : Option (Children S H))
    → IfSome o (HasChildren (parentage (entity_at n))) → IfSome o (HasChildren (parentage (finmap.get (held_map n))))
children_seen n o = subst (λ f. IfSome o (HasChildren (parentage f))) (stored n (held_map n) refl)

pub children_back : {S T H : Type 0} (n : HashMap EntityUID SharedEntity T) (D : EntityMap) (o : Option (Children S H))
    → held_map n ≡ D → IfSome o (HasChildren (parentage (finmap.get D))) → IfSome o (HasChildren (parentage (entity_at n)))
children_back n D o is = subst (λ f. IfSome o (HasChildren (parentage f))) (sym (stored n D is))
