-- Overwriting of entities whose parents stay the same.
use Rattle.std.specs.Prelude.{◌≡◌, ◌⊎◌, Bool, true, false, cond, not, ◌&&◌, ◌||◌, List, [], ◌∷◌, ◌++◌, map, Option, Some}
use Rattle.std.specs.Prelude.{None, is_some, Result, Ok, Err, OnOk, IfErr}
use Rattle.std.specs.List.{list_any}
use Rattle.std.specs.Ordering.{eq_by_cmp}
use Rattle.std.specs.Set.{is_member}
use Rattle.std.proofs.Common.{ap, sym, refl, subst, inl, inr, ◌∙◌}
use Rattle.std.proofs.Math.Bool.{and-false}
use Rattle.std.proofs.lemmas.Bool.{false≢true, or_cases, or_left, or_parts}
use Rattle.std.specs.List.{AllByRecursion}
use Rattle.std.specs.Option.{option_map, option_or, IfSome}
use Rattle.std.specs.HashMap.{HashMap}
use Rattle.std.specs.FinSet as set
use Rattle.std.specs.FinMap as finmap
use Rattle.cedar_graph.specs.Graph.{AddsOnlyReached, HasNoCycleAt, KeepsEdges, Reach}
use Rattle.cedar_graph.specs.laws.Reaches.{reach_edge, reach_over_reach}
use Rattle.cedar_ids.specs.UidOf.{same_uid, uid_order}
use Rattle.cedar_ids.specs.laws.UidOfLaws.{same_uid_decides, uid_order_total}
use Rattle.cedar_ids.specs.declared.entity.EntityUID.{EntityUID}
use Rattle.cedar_uid_sets.specs.UidSets.{UidValues}
use Rattle.cedar_uid_sets.specs.laws.Sets.{one_equal}
use Rattle.cedar_entity.specs.View.{EntityView, has_ancestor, overlap, rest, unchanged_parts}
use Rattle.cedar_entity.specs.declared.node.SharedEntity.{SharedEntity}
use Rattle.cedar_entity.specs.declared.err.EntitiesError.{EntitiesError}
use Rattle.cedar_entity.specs.declared.err.EntitiesError.TheVariants as errors
use Rattle.cedar_entity.specs.laws.UidSets.{kept_in}
use Rattle.cedar_entity_maps.specs.Affected.{IsAcyclicAt, IsEnded, IsRepairIf, IsRepairOf, is_affected}
use Rattle.cedar_entity_maps.specs.Edits.{is_stale, overwrite, uids_of}
use Rattle.cedar_entity_maps.specs.Modes.{Also, IsSound, ancestry, computes, is_ancestor_in}
use Rattle.cedar_entity_maps.specs.Plain.{EntityMap, HasDisjointParents, HasNoIndirect, IsPlainStore, StoreView, keyed}
use Rattle.cedar_entity_maps.specs.Plain.{parts_of}
use Rattle.cedar_entity_maps.specs.InputStore.{InputStore, graph, is_parent_in, reversed}
use Rattle.cedar_entity_maps.specs.declared.modes.EditRules.{EditRules}
use Rattle.cedar_entity_maps.specs.laws.AnyOf.{none_retained}
use Rattle.cedar_entity_maps.specs.laws.Edits.{IsEdit, last_entity, remains}
use Rattle.cedar_entity_maps.specs.laws.Ends.{Ends}
use Rattle.cedar_entity_maps.specs.laws.Indexes.{IsPlainHeld, is_parent_at, parentage}
use Rattle.cedar_entity_maps.specs.laws.PlainAncestors.{ancestry_plain}
use Rattle.cedar_entity_maps.specs.laws.EntityMap.{entity_at, held_map}
use Rattle.cedar_entity_maps.specs.laws.Seen.{get_seen}
use Rattle.cedar_entity_maps.specs.laws.Lists.{all_push}
use Rattle.cedar_entity_maps.specs.laws.WidenedRows.{widened, widened_leads, widened_parts}
use Rattle.cedar_entities.specs.laws.SameParents.{BothAt, HasRowOf, IsOverwrittenInPlace, KeepsParents}
use Rattle.cedar_entities.proofs.Ending.{ends_nothing}
use Rattle.cedar_entities.proofs.Overwriting.{last_some, over_edit}
use Rattle.cedar_entities.proofs.PlainEdits.{closed, edge_was, edit_untouched, parent_on}
use Rattle.cedar_entities.proofs.PlainStores.{parent_leads}
use Rattle.cedar_entities.proofs.Versions.{just, last_push}

-- An entity of the map with the uid and the parents of e.
pub keeps : {S : Type 0} (m : HashMap EntityUID SharedEntity S) (e f o : EntityView) (k : EntityUID) → k ≡ f.uid → f ≡ e
    → entity_at m k ≡ Some o → e.parents ≡ o.parents → HasNoIndirect e → KeepsParents (held_map m) e
keeps m e f o k uid is found parents bare = record {
  stored = o;
  found = get_seen m e.uid ∙ ap (entity_at m) (ap (λ (v : EntityView). v.uid) (sym is) ∙ sym uid) ∙ found;
  parents = parents;
  bare = bare;
}

-- An entity with the row of its uid.
pub row_given : {S : Type 0} (m : HashMap EntityUID SharedEntity S) (e f : EntityView) (k : EntityUID) (row : UidValues)
    → k ≡ f.uid → f ≡ e
    → ((b : EntityUID) → set.contains row b ≡ is_ancestor_in (entity_at m k) b) → HasRowOf (held_map m) e (widened row f)
row_given m e f k row uid is all = record {
  parts = widened_parts row f ∙ ap unchanged_parts is;
  ancestors = λ b. widened_leads row f b
      ∙ (λ i. has_ancestor (is i) b || all b i)
      ∙ ap (λ x. has_ancestor e b || is_ancestor_in x b) (ap (entity_at m) (uid ∙ ap (λ (v : EntityView). v.uid) is)
      ∙ sym (get_seen m e.uid));
}

both_push : (D : EntityMap) (q : EntityUID) (e r : EntityView) → HasRowOf D e r → (o p : Option EntityView) → BothAt D q o p
    → (b : Bool) → same_uid e.uid q ≡ b → (c : Bool) → b ≡ c
    → BothAt D q (option_or (cond b (Some e) None) o) (option_or (cond c (Some r) None) p)
both_push D q e r h o p both true same true t = ((same_uid_decides e.uid q).0 same, h)
both_push D q e r h o p both false same false t = both
both_push D q e r h o p both true same false t = absurd (false≢true (sym t))
both_push D q e r h o p both false same true t = absurd (false≢true t)

-- One more entity got its row.
pub rows_push : (D : EntityMap) (done out : List EntityView) (e r : EntityView) → HasRowOf D e r
    → ((q : EntityUID) → BothAt D q (last_entity done q) (last_entity out q)) → (q : EntityUID)
    → BothAt D q (last_entity (done ++ e ∷ []) q) (last_entity (out ++ r ∷ []) q)
rows_push D done out e r h so q =
    let uids : same_uid e.uid q ≡ same_uid r.uid q = ap (λ (u : EntityUID). same_uid u q) (sym (ap (λ p. p.0) h.parts)) in
    subst (λ o. BothAt D q o (last_entity (out ++ r ∷ []) q)) (sym (last_push done e q))
    (subst (λ p. BothAt D q (option_or (just e q) (last_entity done q)) p) (sym (last_push out r q))
    (both_push D q e r h (last_entity done q) (last_entity out q) (so q) (same_uid e.uid q) refl (same_uid r.uid q) uids))

-- The map after the entities were overwritten with those that have the rows.
pub in_place : {S : Type 0} (m n : HashMap EntityUID SharedEntity S) (L R : List EntityView)
    → ((q : EntityUID) → BothAt (held_map m) q (last_entity L q) (last_entity R q))
    → ((q : EntityUID) → entity_at n q ≡ option_or (last_entity R q) (entity_at m q))
    → IsOverwrittenInPlace (held_map m) (held_map n) L
in_place m n L R both is q =
    (last_entity R q, both q, get_seen n q ∙ is q ∙ ap (option_or (last_entity R q)) (sym (get_seen m q)))

find_all : (P : EntityView → Type 0) (es : List (EntityUID × EntityView)) (q : EntityUID)
    → AllByRecursion (λ p. P p.1) es → IfSome (finmap.find uid_order q es) P
find_all P [] q all = tt
find_all P (e ∷ es) q all = at (eq_by_cmp uid_order q e.0) (find_all P es q all.1)
  where
    at : (b : Bool) → IfSome (finmap.find uid_order q es) P → IfSome (cond b (Some e.1) (finmap.find uid_order q es)) P
    at true h = all.0
    at false h = h

all_reversed : (P : EntityUID × EntityView → Type 0) (es : List (EntityUID × EntityView)) → AllByRecursion P es
    → AllByRecursion P (reversed es)
all_reversed P [] all = tt
all_reversed P (e ∷ es) all = all_push P (reversed es) e (all_reversed P es all.1) all.0

all_keyed : (P : EntityView → Type 0) (L : List EntityView) → AllByRecursion P L → AllByRecursion (λ p. P p.1) (map keyed L)
all_keyed P [] all = tt
all_keyed P (e ∷ L) all = (all.0, all_keyed P L all.1)

-- A property of all entities of a list is one of the last entity with a uid.
all_last : (P : EntityView → Type 0) (L : List EntityView) (q : EntityUID) → AllByRecursion P L → IfSome (last_entity L q) P
all_last P L q all =
    find_all P (reversed (map keyed L)) q (all_reversed (λ p. P p.1) (map keyed L) (all_keyed P L all))

-- An entity that remains, if nothing is removed, has the same parts.
parts_remain : (D : EntityMap) (A : List EntityUID) (o : Option EntityView) → IfSome o HasDisjointParents
    → option_map unchanged_parts (option_map (remains D (λ _. false) A) o) ≡ option_map unchanged_parts o
parts_remain D A None apart = refl
parts_remain D A (Some e) apart =
    let r = remains D (λ _. false) A e in
    let same : r.parents ≡ e.parents = none_retained e.parents (λ _. false) (λ x t. refl) in
    λ i. Some (e.uid, (((e.attrs, e.tags), same i), overlaps i))
  where
    none : (p x k : Bool) → (p ≡ true → x ≡ false) → (p && (x && k)) ≡ (p && x)
    none true true k h = absurd (false≢true (sym (h refl)))
    none true false k h = refl
    none false x k h = refl

    overlaps : overlap (remains D (λ _. false) A e) ≡ overlap e
    overlaps = set.same_set uid_order_total one_equal _ _ (λ q.
        set.contains-intersection uid_order_total (remains D (λ _. false) A e).parents (remains D (λ _. false) A e).indirect q
        ∙ (λ i. set.contains (none_retained e.parents (λ _. false) (λ x t. refl) i) q
        && kept_in e.indirect (λ w. list_any (is_stale D e w) A) q i)
        ∙ none (set.contains e.parents q) (set.contains e.indirect q) (not (list_any (is_stale D e q) A)) (apart q)
        ∙ sym (set.contains-intersection uid_order_total e.parents e.indirect q))

absorbed : (x y : Bool) → (x ≡ true → y ≡ true) → (x || y) ≡ y
absorbed true y h = sym (h refl)
absorbed false y h = refl

-- A plain store whose entities were overwritten in place.
module _ {W : InputStore} {S : StoreView} (plain : IsPlainStore W S) (L : List EntityView) (N : EntityMap)
    (all : AllByRecursion (KeepsParents S.entities) L) (is : IsOverwrittenInPlace S.entities N L) where
  abbrev D : EntityMap
  D = S.entities

  abbrev M : EntityMap
  M = overwrite D L

  abbrev A : List EntityUID
  A = uids_of L

  edit : IsEdit D M (λ _. false) (last_entity L) A
  edit = over_edit D L

  -- An entity of the list has no ancestors but the parents that its uid has in D.
  few : (e : EntityView) → KeepsParents D e → (b : EntityUID) → has_ancestor e b ≡ true → ancestry D e.uid b ≡ true
  few e k b h = elim (or_cases (set.contains e.parents b) (set.contains e.indirect b) h) [
    | inl p ↦ ap (λ o. is_ancestor_in o b) k.found
        ∙ or_left (set.contains k.stored.parents b) (set.contains k.stored.indirect b)
        (sym (ap (λ (s : UidValues). set.contains s b) k.parents) ∙ p)
    | inr i ↦ absurd (false≢true (sym (k.bare b) ∙ i))
  ]

  -- It has all of these parents.
  enough : (e : EntityView) → KeepsParents D e → (b : EntityUID) → graph W e.uid b ≡ true → has_ancestor e b ≡ true
  enough e k b h = or_left (set.contains e.parents b) (set.contains e.indirect b)
      (ap (λ (s : UidValues). set.contains s b) k.parents
      ∙ sym (ap (λ o. is_parent_in (option_map parts_of o) b) k.found) ∙ ap (λ o. is_parent_in o b) (plain.holds e.uid) ∙ h)

  same_at : (q b : EntityUID) (o r : Option EntityView) → IfSome o (KeepsParents D) → BothAt D q o r
      → is_ancestor_in (option_or r (finmap.get D q)) b ≡ ancestry D q b
  same_at q b None None k both = refl
  same_at q b (Some e) (Some r) k both =
      both.1.ancestors b ∙ absorbed (has_ancestor e b) (ancestry D e.uid b) (few e k b)
      ∙ ap (λ (u : EntityUID). ancestry D u b) both.0
  same_at q b None (Some r) k both = absurd both
  same_at q b (Some e) None k both = absurd both

  same : (q b : EntityUID) → ancestry N q b ≡ ancestry D q b
  same q b = ap (λ o. is_ancestor_in o b) (is q).2
      ∙ same_at q b (last_entity L q) (is q).0 (all_last (KeepsParents D) L q all) (is q).1

  listed_at : (q : EntityUID) → is_member same_uid A q ≡ true → (e : EntityView) × (last_entity L q ≡ Some e)
  listed_at q m = at (last_entity L q) refl (last_some L q ∙ m)
    where
      at : (o : Option EntityView) → last_entity L q ≡ o → is_some o ≡ true → (e : EntityView) × (last_entity L q ≡ Some e)
      at None eq h = absurd (false≢true h)
      at (Some e) eq h = (e, eq)

  put_at : (q : EntityUID) (e : EntityView) → last_entity L q ≡ Some e → finmap.get M q ≡ Some e
  put_at q e eq = edit.made q ∙ ap (λ o. option_or o (cond false None (option_map (remains D (λ _. false) A) (finmap.get D q)))) eq

  uid_at : (q : EntityUID) (o r : Option EntityView) → BothAt D q o r → (e : EntityView) → o ≡ Some e → e.uid ≡ q
  uid_at q None r both e eq = absurd (cc)
  uid_at q (Some f) None both e eq = absurd both
  uid_at q (Some f) (Some r) both e eq = ap (λ (v : EntityView). v.uid) (sym (some_inside eq)) ∙ both.0
    where
      some_inside : Some f ≡ Some e → f ≡ e
      some_inside p = cc

  keeps_at : (q : EntityUID) (e : EntityView) → last_entity L q ≡ Some e → (e.uid ≡ q) × KeepsParents D e
  keeps_at q e eq = (
    uid_at q (last_entity L q) (is q).0 (is q).1 e eq,
    subst (λ o. IfSome o (KeepsParents D)) eq (all_last (KeepsParents D) L q all),
  )

  -- The edited map has no ancestors but those in D.
  below : KeepsEdges (ancestry M) (ancestry D)
  below a b h = at (is_member same_uid A a) refl
    where
      at : (x : Bool) → is_member same_uid A a ≡ x → ancestry D a b ≡ true
      at true m =
          let l = listed_at a m in
          let k = keeps_at a l.0 l.1 in
          sym (ap (λ (u : EntityUID). ancestry D u b) k.0)
          ∙ few l.0 k.1 b (sym (ap (λ o. is_ancestor_in o b) (put_at a l.0 l.1)) ∙ h)
      at false out = edge_was edit a b out h

  -- It has all parents.
  above : KeepsEdges (graph W) (ancestry M)
  above a b h = at (is_member same_uid A a) refl
    where
      at : (x : Bool) → is_member same_uid A a ≡ x → ancestry M a b ≡ true
      at true m =
          let l = listed_at a m in
          let k = keeps_at a l.0 l.1 in
          ap (λ o. is_ancestor_in o b) (put_at a l.0 l.1)
          ∙ enough l.0 k.1 b (ap (λ (u : EntityUID). graph W u b) k.0 ∙ h)
      at false out = parent_leads (finmap.get M a) b
          (parent_on plain edit (λ q t. absurd (false≢true t)) a b out refl h)

  reached : (a b : EntityUID) → ancestry D a b ≡ true → Reach (ancestry M) a b
  reached a b h =
      let p = (ancestry_plain W S plain a b).0 h in
      reach_over_reach (ancestry M) (graph W) (λ c d k. reach_edge (ancestry M) c d (above c d k)) a b p

  reaches : (a b : EntityUID) → Reach (ancestry M) a b → ancestry D a b ≡ true
  reaches a b p = closed W S plain a b
      (reach_over_reach (ancestry D) (ancestry M) (λ c d k. reach_edge (ancestry D) c d (below c d k)) a b p)

  parts_at : (q : EntityUID) (o r : Option EntityView) → last_entity L q ≡ o → BothAt D q o r
      → option_map unchanged_parts (option_or r (finmap.get D q)) ≡ option_map unchanged_parts (finmap.get M q)
  parts_at q None None eq both =
      sym (ap (option_map unchanged_parts) (edit.made q
      ∙ ap (λ o. option_or o (cond false None (option_map (remains D (λ _. false) A) (finmap.get D q)))) eq)
      ∙ parts_remain D A (finmap.get D q) (plain.apart q))
  parts_at q (Some e) (Some r) eq both =
      ap Some both.1.parts ∙ sym (ap (option_map unchanged_parts) (put_at q e eq))
  parts_at q None (Some r) eq both = absurd both
  parts_at q (Some e) None eq both = absurd both

  alone_at : (q : EntityUID) → is_affected D A q ≡ false → (o r : Option EntityView) → last_entity L q ≡ o → BothAt D q o r
      → option_or r (finmap.get D q) ≡ finmap.get M q
  alone_at q off None None eq both = sym (edit_untouched edit q off)
  alone_at q off (Some e) r eq both =
      let out = (or_parts (is_member same_uid A q) (list_any (ancestry D q) A) off).0 in
      absurd (false≢true (sym (last_some L q ∙ out) ∙ ap is_some eq))
  alone_at q off None (Some r) eq both = absurd both

  repaired : IsRepairOf (is_affected D A) M N
  repaired = record {
    parts = λ q. ap (option_map unchanged_parts) (is q).2 ∙ parts_at q (last_entity L q) (is q).0 refl (is q).1;
    alone = λ q off. (is q).2 ∙ alone_at q off (last_entity L q) (is q).0 refl (is q).1;
    stays = λ a b h. same a b ∙ below a b h;
    only = λ a b h. reached a b (sym (same a b) ∙ h);
    closed = λ _ _ a b. (λ h. reached a b (sym (same a b) ∙ h), λ p. same a b ∙ reaches a b p);
  }

  acyclic : IsAcyclicAt (is_affected D A) M
  acyclic _ v t p = plain.acyclic v ((ancestry_plain W S plain v v).0 (reaches v v p))

  ended : (a b c : Bool) → ((a && b) && not c) ≡ true
      → Also c (Also (a && b) (IsRepairIf a (is_affected D A) M N) (IsAcyclicAt (is_affected D A) M)) (IsSound N)
  ended true true false h = (repaired, acyclic)
  ended true true true h = absurd (false≢true h)
  ended true false c h = absurd (false≢true h)
  ended false b c h = absurd (false≢true h)

  -- The overwriting is finalized.
  pub in_place_ended : (row : EditRules) → computes row ≡ true → IsEnded row (is_affected D A) M N
  in_place_ended row now = ended row.repairs row.refuses_cycles row.checks now

  parent_at : (q p : EntityUID) (o r : Option EntityView) → last_entity L q ≡ o → BothAt D q o r
      → is_parent_at (option_or r (finmap.get D q)) p ≡ is_parent_at (finmap.get D q) p
  parent_at q p None None eq both = refl
  parent_at q p (Some e) (Some r) eq both =
      let k = keeps_at q e eq in
      ap (λ (s : UidValues). set.contains s p) (ap (λ x. x.1.0.1) both.1.parts ∙ k.1.parents)
      ∙ sym (ap (λ o. is_parent_at o p) (ap (finmap.get D) (sym k.0) ∙ k.1.found))
  parent_at q p None (Some r) eq both = absurd both
  parent_at q p (Some e) None eq both = absurd both

  -- The parents are the same.
  pub in_place_parents : (p q : EntityUID) → parentage (finmap.get N) p q ≡ parentage (finmap.get D) p q
  in_place_parents p q = ap (λ o. is_parent_at o p) (is q).2
      ∙ parent_at q p (last_entity L q) (is q).0 refl (is q).1

-- The result of overwriting in place.
pub in_place_ends : {X : Type 0} (D N : EntityMap) (L : List EntityView) (row : EditRules) (r : Result X EntitiesError)
    → IsPlainHeld D → computes row ≡ true → AllByRecursion (KeepsParents D) L → OnOk r (IsOverwrittenInPlace D N L)
    → IfErr r (λ e. e ≡ errors.Memory) → Ends row (is_affected D (uids_of L)) (overwrite D L) N r
in_place_ends D N L row (Ok x) plain now all is err =
    record { ok = in_place_ended plain.1 L N all is row now; err = tt; named = tt }
in_place_ends D N L row (Err e) plain now all is err =
    ends_nothing row (is_affected D (uids_of L)) (overwrite D L) N (Err e) e err refl
