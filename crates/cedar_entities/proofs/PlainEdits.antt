-- The effect of an edit on any store and on the plain store of an input store. This is common to all edits.
use Rattle.std.specs.Prelude.{◌≡◌, ◌⊎◌, Bool, true, false, cond, not, ◌&&◌, ◌||◌, List, Option, Some, None}
use Rattle.std.proofs.Common.{inl, inr, ap, sym, refl, subst, ◌∙◌}
use Rattle.std.proofs.lemmas.Bool.{and_from, and_parts, both_ways, false_from_ne_true, false≢true, not-true, or_cases}
use Rattle.std.proofs.lemmas.Bool.{or_left, or_parts, or_right}
use Rattle.std.specs.Option.{option_or, option_map, IfSome, is_some}
use Rattle.std.specs.List.{list_any}
use Rattle.std.specs.Set.{is_member}
use Rattle.std.specs.FinSet as set
use Rattle.std.specs.Bool.{OnTrue}
use Rattle.std.specs.FinMap as finmap
use Rattle.cedar_graph.specs.Graph.{Reach, AddsOnlyReached, IsTrusted}
use Rattle.cedar_graph.specs.laws.Reaches.{reach_edge, reach_over_reach}
use Rattle.cedar_graph.specs.declared.err.TcError.{TcError}
use Rattle.cedar_ids.specs.UidOf.{same_uid}
use Rattle.cedar_ids.specs.laws.UidOfLaws.{same_uid_decides}
use Rattle.cedar_ids.specs.declared.entity.EntityUID.{EntityUID}
use Rattle.cedar_entity.specs.laws.UidSets.{kept_in}
use Rattle.cedar_entity.specs.View.{EntityView, has_ancestor}
use Rattle.cedar_entity_maps.specs.Edits.{is_stale}
use Rattle.cedar_entity_maps.specs.Modes.{ancestry, computes, is_ancestor_in}
use Rattle.cedar_entity_maps.specs.Plain.{StoreView, EntityMap, IsPlainStore, IsKeyed, HasDisjointParents, HasNoIndirect, parts_of}
use Rattle.cedar_entity_maps.specs.EditErrors.{NamesCycle}
use Rattle.cedar_entity_maps.specs.Affected.{is_affected, IsAcyclicAt, IsEnded, IsEndError, IsRepairOf, StaysUnaffected}
use Rattle.cedar_entity_maps.specs.InputStore.{InputStore, graph, is_parent_in}
use Rattle.cedar_entity_maps.specs.declared.modes.EditRules.{EditRules}
use Rattle.cedar_entities.specs.laws.Closures.{IsClosureOf}
use Rattle.cedar_entity_maps.specs.laws.Edits.{remains, IsEdit}
use Rattle.cedar_entity_maps.specs.laws.PlainAncestors.{ancestry_plain, first_key}
use Rattle.cedar_entity_maps.specs.laws.AnyOf.{any_less, any_member, is_none, none_retained}
use Rattle.cedar_entity_maps.specs.laws.Keyed.{cond_holds, map_keyed}
use Rattle.cedar_entities.proofs.Ending.{ended_computed, refused_computed}
use Rattle.cedar_entities.proofs.PlainStores.{bare_apart, bare_leads, cycle_in, if_or, plain_from}
use Rattle.cedar_entities.proofs.Reaching.{kept_past, untouched}

-- An entity that remains.
module _ (D : EntityMap) (removed : EntityUID → Bool) (A : List EntityUID) where
  remained : (o : Option EntityView) (b : EntityUID) → is_ancestor_in (option_map (remains D removed A) o) b ≡ true
      → is_ancestor_in o b ≡ true
  remained None b h = h
  remained (Some e) b h = elim (or_cases (set.contains (remains D removed A e).parents b) _ h) [
    | inl t ↦ or_left (set.contains e.parents b) (set.contains e.indirect b)
        (and_parts (set.contains e.parents b) (not (removed b)) (sym (kept_in e.parents removed b) ∙ t)).0
    | inr t ↦ or_right (set.contains e.parents b) (set.contains e.indirect b)
        (and_parts (set.contains e.indirect b) (not (list_any (is_stale D e b) A))
        (sym (kept_in e.indirect (λ w. list_any (is_stale D e w) A) b) ∙ t)).0
  ]

  parent_remains : (o : Option EntityView) (b : EntityUID) → removed b ≡ false
      → is_parent_in (option_map parts_of o) b ≡ true
      → is_parent_in (option_map parts_of (option_map (remains D removed A) o)) b ≡ true
  parent_remains None b off h = h
  parent_remains (Some e) b off h =
      kept_in e.parents removed b ∙ and_from (set.contains e.parents b) (not (removed b)) h (ap not off)

  pub apart_remains : (o : Option EntityView) → IfSome o HasDisjointParents → IfSome (option_map (remains D removed A) o) HasDisjointParents
  apart_remains None h = tt
  apart_remains (Some e) h = λ y t.
      kept_in e.indirect (λ w. list_any (is_stale D e w) A) y
      ∙ ap (λ b. b && not (list_any (is_stale D e y) A))
      (h y (and_parts (set.contains e.parents y) (not (removed y)) (sym (kept_in e.parents removed y) ∙ t)).0)

  -- An entity that has none of the uids as an ancestor does not change.
  remains_same : ((q : EntityUID) → removed q ≡ true → is_member same_uid A q ≡ true) → (o : Option EntityView)
      → list_any (is_ancestor_in o) A ≡ false → option_map (remains D removed A) o ≡ o
  remains_same among None h = refl
  remains_same among (Some e) h = λ i. Some (record e {
    parents = none_retained e.parents removed
        (λ x t. false_from_ne_true (removed x) (λ l. both_ways (list_any (has_ancestor e) A) h
        (any_member (has_ancestor e) A x (among x l)
        (or_left (set.contains e.parents x) (set.contains e.indirect x) t)))) i;
    indirect = none_retained e.indirect (λ w. list_any (is_stale D e w) A)
        (λ w _. any_less (is_stale D e w) (has_ancestor e)
        (λ u k. (and_parts (finmap.contains_key D u) (has_ancestor e u)
        (and_parts (finmap.contains_key D u && has_ancestor e u) (same_uid u w || ancestry D u w) k).0).1) A h) i;
  })

module _ {D M : EntityMap} {removed : EntityUID → Bool} {put : EntityUID → Option EntityView} {A : List EntityUID}
    (x : IsEdit D M removed put A) where
  among : (q : EntityUID) → removed q ≡ true → is_member same_uid A q ≡ true
  among q g = x.applied q ∙ or_right (is_some (put q)) (removed q) g

  -- Entities at other uids remain.
  pub made_outside : (q : EntityUID) → is_member same_uid A q ≡ false
      → finmap.get M q ≡ option_map (remains D removed A) (finmap.get D q)
  made_outside q out =
      let p = or_parts (is_some (put q)) (removed q) (sym (x.applied q) ∙ out) in
      x.made q
      ∙ (λ i. option_or (is_none (put q) p.0 i) (cond (p.1 i) None (option_map (remains D removed A) (finmap.get D q))))

  -- Entities that are not affected do not change.
  pub edit_untouched : StaysUnaffected A D M
  edit_untouched q t =
      let p = or_parts (is_member same_uid A q) (list_any (ancestry D q) A) t in
      made_outside q p.0 ∙ remains_same D removed A among (finmap.get D q) p.1

  pub edge_was : (a b : EntityUID) → is_member same_uid A a ≡ false → ancestry M a b ≡ true → ancestry D a b ≡ true
  edge_was a b out h = remained D removed A (finmap.get D a) b
      (sym (ap (λ o. is_ancestor_in o b) (made_outside a out)) ∙ h)

  -- If nothing is inserted, no edge is added.
  edge_was_all : ((q : EntityUID) → put q ≡ None) → (a b : EntityUID) → ancestry M a b ≡ true → ancestry D a b ≡ true
  edge_was_all none a b h = at (removed a) (sym (ap (λ o. is_ancestor_in o b) (x.made a
      ∙ ap (λ o. option_or o (cond (removed a) None (option_map (remains D removed A) (finmap.get D a)))) (none a))) ∙ h)
    where
      at : (g : Bool) → is_ancestor_in (cond g None (option_map (remains D removed A) (finmap.get D a))) b ≡ true
          → ancestry D a b ≡ true
      at true k = absurd (both_ways false refl k)
      at false k = remained D removed A (finmap.get D a) b k

some_parts : (o : Option EntityView) → is_some (option_map parts_of o) ≡ is_some o
some_parts None = refl
some_parts (Some e) = refl

module _ (W : InputStore) (S : StoreView) (plain : IsPlainStore W S) where
  -- The store has entities at the uids of the input store.
  pub held_alike : (u : EntityUID) → finmap.contains_key S.entities u ≡ finmap.contains_key W.entities u
  held_alike u = sym (some_parts (finmap.get S.entities u)) ∙ ap is_some (plain.holds u)

  -- A uid that reaches another has an entity.
  reaches_held : (u b : EntityUID) → Reach (graph W) u b → finmap.contains_key S.entities u ≡ true
  reaches_held u b r = held_alike u ∙ first_key W u b r.0 r.1

  -- An ancestor that an edit of u makes stale: u is between the entity and this ancestor.
  pub goes_between : (q : EntityUID) (e : EntityView) → finmap.get S.entities q ≡ Some e → (w u : EntityUID)
      → Reach (graph W) q u → (u ≡ w) ⊎ Reach (graph W) u w → finmap.contains_key S.entities u ≡ true
      → is_stale S.entities e w u ≡ true
  goes_between q e is w u r s k =
      and_from _ _ (and_from _ _ k (sym (ap (λ o. is_ancestor_in o u) is) ∙ (ancestry_plain W S plain q u).1 r))
      (elim s [
        | inl t ↦ or_left (same_uid u w) (ancestry S.entities u w) ((same_uid_decides u w).1 t)
        | inr t ↦ or_right (same_uid u w) (ancestry S.entities u w) ((ancestry_plain W S plain u w).1 t)
      ])

  -- A uid reached over ancestors is an ancestor.
  pub closed : (a b : EntityUID) → Reach (ancestry S.entities) a b → ancestry S.entities a b ≡ true
  closed a b r = (ancestry_plain W S plain a b).1
      (reach_over_reach (graph W) (ancestry S.entities) (λ c d h. (ancestry_plain W S plain c d).0 h) a b r)

-- An edit of a plain store that removes only entities of the store.
module _ {W : InputStore} {S : StoreView} (plain : IsPlainStore W S) {M : EntityMap} {removed : EntityUID → Bool}
    {put : EntityUID → Option EntityView} {A : List EntityUID} (x : IsEdit S.entities M removed put A)
    (entity_at : (q : EntityUID) → removed q ≡ true → finmap.contains_key S.entities q ≡ true) where
  -- At other uids a parent that is not removed remains.
  pub parent_on : (a b : EntityUID) → is_member same_uid A a ≡ false → removed b ≡ false → graph W a b ≡ true
      → is_parent_in (option_map parts_of (finmap.get M a)) b ≡ true
  parent_on a b out off h =
      ap (λ o. is_parent_in (option_map parts_of o) b) (made_outside x a out)
      ∙ parent_remains S.entities removed A (finmap.get S.entities a) b off (ap (λ o. is_parent_in o b) (plain.holds a) ∙ h)

  -- An ancestor that is not stale is still reached, because no edited uid is between.
  stays_reached : (H : EntityUID → EntityUID → Bool)
      → ((a b : EntityUID) → is_member same_uid A a ≡ false → removed b ≡ false → graph W a b ≡ true → H a b ≡ true)
      → (a b : EntityUID) (e : EntityView) → finmap.get S.entities a ≡ Some e → is_member same_uid A a ≡ false
      → set.contains e.indirect b ≡ true → list_any (is_stale S.entities e b) A ≡ false → Reach H a b
  stays_reached H on a b e is out i none =
      let whole : Reach (graph W) a b = (ancestry_plain W S plain a b).0 (ap (λ o. is_ancestor_in o b) is
      ∙ or_right (set.contains e.parents b) (set.contains e.indirect b) i) in
      let takes = λ (u : EntityUID) (m : is_member same_uid A u ≡ true) (k : finmap.contains_key S.entities u ≡ true)
      (r : Reach (graph W) a u) (s : (u ≡ b) ⊎ Reach (graph W) u b).
      both_ways (list_any (is_stale S.entities e b) A) none (any_member (is_stale S.entities e b) A u m
      (goes_between W S plain a e is b u r s k)) in
      kept_past (graph W) H (is_member same_uid A) removed on
      (λ u o. false_from_ne_true (removed u) (λ g. both_ways (is_member same_uid A u) o (among x u g))) a b out
      (false_from_ne_true (removed b) (λ g. takes b (among x b g) (entity_at b g) whole (inl refl)))
      (λ u r s. false_from_ne_true (is_member same_uid A u)
      (λ m. takes u m (reaches_held W S plain u b s) r (inr s))) whole

  -- The same for each ancestor at other uids.
  pub reached_on : (H : EntityUID → EntityUID → Bool)
      → ((a b : EntityUID) → is_member same_uid A a ≡ false → removed b ≡ false → graph W a b ≡ true → H a b ≡ true)
      → (a b : EntityUID) → is_member same_uid A a ≡ false → ancestry M a b ≡ true → Reach H a b
  reached_on H on a b out h =
      at (finmap.get S.entities a) refl (sym (ap (λ o. is_ancestor_in o b) (made_outside x a out)) ∙ h)
    where
      at : (o : Option EntityView) → finmap.get S.entities a ≡ o
          → is_ancestor_in (option_map (remains S.entities removed A) o) b ≡ true → Reach H a b
      at None is k = absurd (both_ways false refl k)
      at (Some e) is k = elim (or_cases (set.contains (remains S.entities removed A e).parents b) _ k) [
        | inl t ↦
            let p = and_parts (set.contains e.parents b) (not (removed b)) (sym (kept_in e.parents removed b) ∙ t) in
            reach_edge H a b (on a b out (not-true (removed b) p.1) (ap (λ o. is_parent_in o b) (sym (plain.holds a))
            ∙ ap (λ o. is_parent_in (option_map parts_of o) b) is ∙ p.0))
        | inr t ↦
            let p = and_parts (set.contains e.indirect b) (not (list_any (is_stale S.entities e b) A))
            (sym (kept_in e.indirect (λ w. list_any (is_stale S.entities e w) A) b) ∙ t) in
            stays_reached H on a b e is out p.0 (not-true (list_any (is_stale S.entities e b) A) p.1)
      ]

  -- An entity that is not affected reaches only its old ancestors.
  was_ancestor : (a b : EntityUID) → is_affected S.entities A a ≡ false → Reach (ancestry M) a b
      → ancestry S.entities a b ≡ true
  was_ancestor a b t r =
      let p = or_parts (is_member same_uid A a) (list_any (ancestry S.entities a) A) t in
      closed W S plain a b (untouched (ancestry S.entities) (ancestry M) (is_member same_uid A) (edge_was x) a b p.0
      (λ u k. false_from_ne_true (is_member same_uid A u) (λ m. both_ways (list_any (ancestry S.entities a) A) p.1
      (any_member (ancestry S.entities a) A u m (closed W S plain a u k)))) r)

  -- So it has all ancestors that it reaches.
  pub trusted : IsTrusted (is_affected S.entities A) (ancestry M)
  trusted a b t r = ap (λ o. is_ancestor_in o b) (edit_untouched x a t) ∙ was_ancestor a b t r

  -- If nothing is inserted, no uid reaches itself.
  pub no_loop : ((q : EntityUID) → put q ≡ None) → (v : EntityUID) → Reach (ancestry M) v v → ⊥
  no_loop none v p = plain.acyclic v (reach_over_reach (graph W) (ancestry M)
      (λ a b h. (ancestry_plain W S plain a b).0 (edge_was_all x none a b h)) v v p)

  no_cycle : IsAcyclicAt (is_affected S.entities A) M → (v : EntityUID) → Reach (ancestry M) v v → (b : Bool)
      → is_affected S.entities A v ≡ b → ⊥
  no_cycle c v p true t = c trusted v t p
  no_cycle c v p false t = plain.acyclic v ((ancestry_plain W S plain v v).0 (was_ancestor v v t p))

  -- So the repair of the affected entities is the closure.
  repaired : (N : EntityMap) → IsRepairOf (is_affected S.entities A) M N → IsAcyclicAt (is_affected S.entities A) M
      → IsClosureOf M N
  repaired N r c = record {
    parts = r.parts;
    ancestors = r.closed trusted (c trusted);
    acyclic = λ v p. no_cycle c v p (is_affected S.entities A v) refl;
  }

-- An edit of the plain store of W that results in the parts of V. It removes only entities of the store, and inserts
-- only input entities.
pub record IsPlainEdit (W V : InputStore) (S : StoreView) (M : EntityMap) (removed : EntityUID → Bool)
    (put : EntityUID → Option EntityView) (A : List EntityUID) : Type 0 where
  pub plain : IsPlainStore W S
  pub made : IsEdit S.entities M removed put A
  pub there : (q : EntityUID) → removed q ≡ true → finmap.contains_key S.entities q ≡ true
  pub bare : (q : EntityUID) → IfSome (put q) HasNoIndirect
  pub keyed : (q : EntityUID) → IfSome (put q) (λ e. e.uid ≡ q)
  pub holds : (q : EntityUID) → option_map parts_of (finmap.get M q) ≡ finmap.get V.entities q

-- An inserted entity has no indirect ancestors.
comes_bare : (p o : Option EntityView) (g : Bool) → IfSome p HasNoIndirect → (is_some p || g) ≡ true
    → IfSome (option_or p (cond g None o)) HasNoIndirect
comes_bare (Some e) o g h t = h
comes_bare None o true h t = tt
comes_bare None o false h t = absurd (false≢true t)

module _ {W V : InputStore} {S : StoreView} {M : EntityMap} {removed : EntityUID → Bool} {put : EntityUID → Option EntityView}
    {A : List EntityUID} (x : IsPlainEdit W V S M removed put A) where
  holds_in : (P : EntityView → Type 0) (q : EntityUID) → IfSome (put q) P
      → IfSome (option_map (remains S.entities removed A) (finmap.get S.entities q)) P → IfSome (finmap.get M q) P
  holds_in P q h k = subst (λ o. IfSome o P) (sym (x.made.made q)) (if_or P (put q) _ h (cond_holds P (removed q) _ k))

  keys : IsKeyed M
  keys q = holds_in (λ e. e.uid ≡ q) q (x.keyed q)
      (map_keyed (remains S.entities removed A) (λ e. refl) q (finmap.get S.entities q) (x.plain.keyed q))

  apart : (q : EntityUID) → IfSome (finmap.get M q) HasDisjointParents
  apart q = holds_in HasDisjointParents q (bare_apart (put q) (x.bare q))
      (apart_remains S.entities removed A (finmap.get S.entities q) (x.plain.apart q))

  -- Each ancestor is reached in V.
  only : AddsOnlyReached (graph V) (ancestry M)
  only a b h = at (is_member same_uid A a) refl
    where
      at : (m : Bool) → is_member same_uid A a ≡ m → Reach (graph V) a b
      at true t = reach_edge (graph V) a b (ap (λ o. is_parent_in o b) (sym (x.holds a))
          ∙ sym (bare_leads (finmap.get M a) b (subst (λ o. IfSome o HasNoIndirect) (sym (x.made.made a))
          (comes_bare (put a) _ (removed a) (x.bare a) (sym (x.made.applied a) ∙ t)))) ∙ h)
      at false out = reached_on x.plain x.made x.there (graph V)
          (λ c d o off k. ap (λ p. is_parent_in p d) (sym (x.holds c))
          ∙ parent_on x.plain x.made x.there c d o off k) a b out h

  -- The repair results in the plain store of V.
  pub edit_plain : (N : StoreView) → N.partial ≡ V.partial → IsRepairOf (is_affected S.entities A) M N.entities
      → IsAcyclicAt (is_affected S.entities A) M → IsPlainStore V N
  edit_plain N same r c =
      plain_from V M N same x.holds keys apart only (repaired x.plain x.made x.there N.entities r c)

  -- If ancestors are computed, the result is the plain store of V.
  pub ended_plain : (row : EditRules) (N : StoreView) → N.partial ≡ V.partial
      → IsEnded row (is_affected S.entities A) M N.entities → OnTrue (computes row) (IsPlainStore V N)
  ended_plain row N same =
      ended_computed row (is_affected S.entities A) M N.entities (IsPlainStore V N) (edit_plain N same)

  -- An error then names a cycle of V.
  pub names_cycle : (row : EditRules) (affected : EntityUID → Bool) (t : TcError EntityUID) → IsEndError row affected M t
      → OnTrue (computes row) (NamesCycle V t)
  names_cycle row affected t = refused_computed row affected M t (NamesCycle V t) (cycle_in V M x.holds only t)
