-- A repair of a plain store whose affected entities have lost all indirect ancestors. It has the same result as a
-- repair after removing only the stale ancestors.
use Rattle.std.specs.Prelude.{◌≡◌, ◌⊎◌, Bool, true, false, cond, not, ◌&&◌, ◌||◌, List, Option, Some, None, Result, Ok}
use Rattle.std.specs.Prelude.{Err, [], length}
use Rattle.std.proofs.Common.{ap, sym, refl, subst, inl, inr, ◌∙◌}
use Rattle.std.proofs.lemmas.Bool.{and_parts, false≢true, not-true, or_from, or_left, or_parts}
use Rattle.std.proofs.Math.Bool.{and-false}
use Rattle.std.proofs.lemmas.List.{nil_from_length}
use Rattle.std.specs.HashMap.{HashMap}
use Rattle.std.specs.Option.{option_map, IfSome}
use Rattle.std.specs.List.{AllByRecursion, list_any}
use Rattle.std.specs.Set.{is_member}
use Rattle.std.specs.FinSet as set
use Rattle.std.specs.FinMap as finmap
use Rattle.cedar_graph.specs.Graph.{AddsOnlyReached, HasNoCycleAt, IsTrusted, KeepsEdges, Reach, ReachesSame}
use Rattle.cedar_graph.specs.laws.Reaches.{reach_between, reach_edge, reach_over_reach}
use Rattle.cedar_graph.specs.declared.err.TcError.{TcError}
use Rattle.cedar_graph.specs.declared.err.TcError.TheVariants as tc
use Rattle.cedar_ids.specs.UidOf.{same_uid, uid_order}
use Rattle.cedar_ids.specs.laws.UidOfLaws.{uid_order_total}
use Rattle.cedar_ids.specs.declared.entity.EntityUID.{EntityUID}
use Rattle.cedar_uid_sets.specs.UidSets.{UidValues}
use Rattle.cedar_uid_sets.specs.laws.Sets.{one_equal}
use Rattle.cedar_entity.specs.View.{EntityView, unchanged_parts, overlap, rest}
use Rattle.cedar_entity.specs.declared.err.EntitiesError.{EntitiesError}
use Rattle.cedar_entity.specs.declared.node.SharedEntity.{SharedEntity}
use Rattle.cedar_entity_maps.specs.Edits.{uids_of}
use Rattle.cedar_entity_maps.specs.Modes.{Also, IsSound, OneOf, ReportsCycle, ReportsUnsound, ancestry, computes}
use Rattle.cedar_entity_maps.specs.Modes.{is_ancestor_in, with_repair}
use Rattle.cedar_entity_maps.specs.Plain.{EntityMap, HasDisjointParents, IsPlainStore, StoreView}
use Rattle.cedar_entities.specs.Present.{with_first}
use Rattle.cedar_entity_maps.specs.Affected.{IsAcyclicAt, IsEnded, IsEndError, IsRepairOf, SomeRepairIf, inserted_in}
use Rattle.cedar_entity_maps.specs.Affected.{is_affected}
use Rattle.cedar_entity_maps.specs.InputStore.{InputStore, is_parent_in}
use Rattle.cedar_entity_maps.specs.declared.modes.EditRules.{EditRules}
use Rattle.cedar_entity_maps.specs.declared.affected.StaleAncestors.{StaleAncestors}
use Rattle.cedar_entity_maps.specs.laws.Edits.{IsEdit, bared, last_entity, remains}
use Rattle.cedar_entity_maps.specs.laws.Ends.{Ends}
use Rattle.cedar_entity_maps.specs.laws.EntityMap.{entity_at, held_map}
use Rattle.cedar_entity_maps.specs.laws.Indexes.{IsPlainHeld, is_parent_at}
use Rattle.cedar_entity_maps.specs.laws.StaleUids.{left_by, AreLossesOf, IsWhole, is_stripped, loses, loses_uid}
use Rattle.cedar_entities.proofs.Adding.{add_edit}
use Rattle.cedar_entity_maps.specs.laws.Seen.{stored, get_seen, seen_as}
use Rattle.cedar_entity_maps.specs.laws.AnyOf.{all_retained, any_alike}
use Rattle.cedar_entities.proofs.Edited.{at_applied, at_others, edit_same, seen_written, written_edit, IsWritten}
use Rattle.cedar_entity_maps.specs.laws.EditErrors.{refused_for}
use Rattle.cedar_entity_maps.specs.laws.StaleUidLaws.{loses_below, loses_whole, still}
use Rattle.cedar_entities.proofs.Overwriting.{last_some}
use Rattle.cedar_entities.proofs.PlainEdits.{apart_remains, edit_untouched, made_outside, no_loop, parent_on}
use Rattle.cedar_entities.proofs.PlainEdits.{reached_on, trusted}
use Rattle.cedar_entities.proofs.PlainStores.{none_both, parent_leads, parents_alone, parts_alike}

-- N is M, except that affected entities outside the uids A may have lost their indirect ancestors.
pub record Forgets (affected : EntityUID → Bool) (A : List EntityUID) (M N : EntityMap) : Type 0 where
  pub alone : (q : EntityUID) → affected q ≡ false → finmap.get N q ≡ finmap.get M q
  pub either : (q : EntityUID) → (finmap.get N q ≡ finmap.get M q)
      ⊎ ((is_member same_uid A q ≡ false) × (finmap.get N q ≡ option_map bared (finmap.get M q)))

-- A repair of N is a repair of M, provided that it finds no cycle. The other entities have all ancestors that they
-- reach, and N reaches the same uids as M.
module _ (affected : EntityUID → Bool) (M N : EntityMap)
    (parts : (q : EntityUID) → option_map unchanged_parts (finmap.get N q) ≡ option_map unchanged_parts (finmap.get M q))
    (alone : (q : EntityUID) → affected q ≡ false → finmap.get N q ≡ finmap.get M q)
    (fewer : KeepsEdges (ancestry N) (ancestry M)) (reached : AddsOnlyReached (ancestry N) (ancestry M))
    (trusted : IsTrusted affected (ancestry N)) where
  same : ReachesSame (ancestry N) (ancestry M)
  same = reach_between (ancestry N) (ancestry M) fewer reached

  repair_of : (E : EntityMap) → IsRepairOf affected N E → HasNoCycleAt affected (ancestry N) → IsRepairOf affected M E
  repair_of E r none =
      let closed = r.closed trusted none in
      record {
        parts = λ q. r.parts q ∙ parts q;
        alone = λ q t. r.alone q t ∙ alone q t;
        stays = λ a b h. (closed a b).1 (reached a b h);
        only = λ a b h. (same a b).1 (r.only a b h);
        closed = λ _ _ a b. (λ h. (same a b).1 ((closed a b).0 h), λ p. (closed a b).1 ((same a b).0 p));
      }

  acyclic_of : IsAcyclicAt affected N → IsAcyclicAt affected M
  acyclic_of h _ v t p = h trusted v t ((same v v).0 p)

  tells_of : (t : TcError EntityUID) → ReportsCycle N t → ReportsCycle M t
  tells_of (tc.MissingTcEdge x) h = h
  tells_of (tc.HasCycle x) h = (same x.vertex x.vertex).1 h
  tells_of tc.Memory h = h

  -- The edit rules compute the closure, or there is no cycle.
  abbrev FindsNone : EditRules → Type 0
  FindsNone row = (computes row ≡ true) ⊎ HasNoCycleAt affected (ancestry N)

  ended_of : (row : EditRules) (E : EntityMap) → FindsNone (with_repair row) → IsEnded (with_repair row) affected N E
      → IsEnded (with_repair row) affected M E
  ended_of row E = at row.refuses_cycles row.checks
    where
      at : (b c : Bool) → ((b && not c) ≡ true) ⊎ HasNoCycleAt affected (ancestry N)
          → Also c (Also b (IsRepairOf affected N E) (IsAcyclicAt affected N)) (IsSound E)
          → Also c (Also b (IsRepairOf affected M E) (IsAcyclicAt affected M)) (IsSound E)
      at true true why h = ((repair_of E h.0.0 (h.0.1 trusted), acyclic_of h.0.1), h.1)
      at true false why h = (repair_of E h.0 (h.1 trusted), acyclic_of h.1)
      at false c (inl t) h = absurd (false≢true t)
      at false true (inr none) h = (repair_of E h.0 none, h.1)
      at false false (inr none) h = repair_of E h none

  refused_of : (row : EditRules) (t : TcError EntityUID) → FindsNone (with_repair row) → IsEndError (with_repair row) affected N t
      → IsEndError (with_repair row) affected M t
  refused_of row t = at row.refuses_cycles row.checks
    where
      at : (b c : Bool) → ((b && not c) ≡ true) ⊎ HasNoCycleAt affected (ancestry N)
          → OneOf b (ReportsCycle N t) c (SomeRepairIf true affected N (λ E. ReportsUnsound E t))
          → OneOf b (ReportsCycle M t) c (SomeRepairIf true affected M (λ E. ReportsUnsound E t))
      at true true (inl n) h = absurd (false≢true n)
      at true true (inr none) (inl p) = inl (tells_of t p)
      at true true (inr none) (inr s) = inr (s.0, repair_of s.0 s.1 none, s.2)
      at true false why h = tells_of t h
      at false true (inl n) h = absurd (false≢true n)
      at false true (inr none) h = (h.0, repair_of h.0 h.1 none, h.2)
      at false false why h = h

  ends_mended : {X : Type 0} (row : EditRules) (E : EntityMap) (r : Result X EntitiesError) → FindsNone (with_repair row)
      → Ends (with_repair row) affected N E r → Ends (with_repair row) affected M E r
  ends_mended row E (Ok x) why ends = record { ok = ended_of row E why ends.ok; err = tt; named = tt }
  ends_mended row E (Err e) why ends = record {
    ok = tt;
    err = refused_for (IsEndError (with_repair row) affected N) (IsEndError (with_repair row) affected M)
        (λ t. refused_of row t why) e ends.err;
    named = ends.named;
  }

  -- The finalization of N is a finalization of M.
  pub ends_of : {X : Type 0} (row : EditRules) (E : EntityMap) (r : Result X EntitiesError) → row.repairs ≡ true → FindsNone row
      → Ends row affected N E r → Ends row affected M E r
  ends_of row E r is why ends =
      let whole : with_repair row ≡ row = λ i. record row { repairs = sym is i } in
      subst (λ f. Ends f affected M E r) whole
      (ends_mended row E r (subst FindsNone (sym whole) why) (subst (λ f. Ends f affected N E r) (sym whole) ends))

-- An entity without its indirect ancestors.
bared_leads : (o : Option EntityView) (b : EntityUID) → is_ancestor_in (option_map bared o) b ≡ true
    → is_ancestor_in o b ≡ true
bared_leads None b h = h
bared_leads (Some e) b h = or_left (set.contains e.parents b) (set.contains e.indirect b)
    (sym (parents_alone (bared e) b (set.contains-empty uid_order b)) ∙ h)

no_overlap : (e : EntityView) → HasDisjointParents e → overlap (bared e) ≡ overlap e
no_overlap e h = set.same_set uid_order_total one_equal _ _ (λ x.
    set.contains-intersection uid_order_total e.parents set.empty x
    ∙ ap (λ b. set.contains e.parents x && b) (set.contains-empty uid_order x)
    ∙ and-false (set.contains e.parents x)
    ∙ sym (set.contains-intersection uid_order_total e.parents e.indirect x
    ∙ none_both (set.contains e.parents x) (set.contains e.indirect x) (h x)))

kept_bared : (o : Option EntityView) → IfSome o HasDisjointParents → option_map unchanged_parts (option_map bared o) ≡ option_map unchanged_parts o
kept_bared None h = refl
kept_bared (Some e) h = λ i. Some (e.uid, (rest e, no_overlap e h i))

reach_stays : (G H : EntityUID → EntityUID → Bool) → KeepsEdges G H → (a b : EntityUID) → Reach G a b → Reach H a b
reach_stays G H stays a b r = reach_over_reach H G (λ x y h. reach_edge H x y (stays x y h)) a b r

module _ {W : InputStore} {S : StoreView} (plain : IsPlainStore W S) {M N : EntityMap} {removed : EntityUID → Bool}
    {put : EntityUID → Option EntityView} {A : List EntityUID} (x : IsEdit S.entities M removed put A)
    (entity_at : (q : EntityUID) → removed q ≡ true → finmap.contains_key S.entities q ≡ true)
    (f : Forgets (is_affected S.entities A) A M N) where
  parts_on : (q : EntityUID) → option_map unchanged_parts (finmap.get N q) ≡ option_map unchanged_parts (finmap.get M q)
  parts_on q = elim (f.either q) [
    | inl same ↦ ap (option_map unchanged_parts) same
    | inr p ↦ ap (option_map unchanged_parts) p.1 ∙ kept_bared (finmap.get M q)
        (subst (λ o. IfSome o HasDisjointParents) (sym (made_outside x q p.0))
        (apart_remains S.entities removed A (finmap.get S.entities q) (plain.apart q)))
  ]

  reached : AddsOnlyReached (ancestry N) (ancestry M)
  reached a b h = elim (f.either a) [
    | inl same ↦ reach_edge (ancestry N) a b (ap (λ o. is_ancestor_in o b) same ∙ h)
    | inr p ↦ reached_on plain x entity_at (ancestry N) (λ c d out off k. parent_leads (finmap.get N c) d
        (ap (λ o. is_parent_in o d) (parts_alike (finmap.get N c) (finmap.get M c) (parts_on c))
        ∙ parent_on plain x entity_at c d out off k)) a b p.0 h
  ]

  fewer_on : KeepsEdges (ancestry N) (ancestry M)
  fewer_on a b h = elim (f.either a) [
    | inl same ↦ sym (ap (λ o. is_ancestor_in o b) same) ∙ h
    | inr p ↦ bared_leads (finmap.get M a) b (sym (ap (λ o. is_ancestor_in o b) p.1) ∙ h)
  ]

  -- Entities that are not affected have all ancestors that they reach.
  trusted_on : IsTrusted (is_affected S.entities A) (ancestry N)
  trusted_on a b t r = ap (λ o. is_ancestor_in o b) (f.alone a t)
      ∙ trusted plain x entity_at a b t (reach_stays (ancestry N) (ancestry M) fewer_on a b r)

  -- An edit of a plain store is finalized as its repair is, if ancestors are computed or nothing is inserted.
  pub renewed : {X : Type 0} (row : EditRules) (E : EntityMap) (r : Result X EntitiesError) → row.repairs ≡ true
      → (computes row ≡ true) ⊎ ((q : EntityUID) → put q ≡ None) → Ends row (is_affected S.entities A) N E r
      → Ends row (is_affected S.entities A) M E r
  renewed row E r is why = ends_of (is_affected S.entities A) M N parts_on f.alone fewer_on reached trusted_on row E r is
      (elim why [
        | inl t ↦ inl t
        | inr none ↦ inr (λ v _ p.
            no_loop plain x entity_at none v (reach_stays (ancestry N) (ancestry M) fewer_on v v p))
      ])

module _ {T : Type 0} (m n : HashMap EntityUID SharedEntity T) (removed : UidValues) (L : List EntityView) (M : EntityMap)
    (A K : List EntityUID) (R : List StaleAncestors)
    (x : IsEdit (held_map m) M (set.contains removed) (last_entity L) A)
    (all : (q : EntityUID) → is_member same_uid K q ≡ (is_member same_uid (uids_of L) q || set.contains removed q))
    (who : (q : EntityUID) → loses R q ≡ is_stripped K q (ancestry (held_map m) q))
    (whole : AllByRecursion IsWhole R)
    (is : IsWritten removed L R (entity_at m) (entity_at n)) where
  abbrev D : EntityMap
  D = held_map m

  alike : (q : EntityUID) → is_member same_uid K q ≡ is_member same_uid A q
  alike q = all q ∙ ap (λ b. b || set.contains removed q) (sym (last_some L q)) ∙ sym (x.applied q)

  loses_at : (q : EntityUID) → is_member same_uid A q ≡ false → loses R q ≡ list_any (ancestry D q) A
  loses_at q out = loses_below D K R who q (alike q ∙ out) ∙ any_alike (ancestry D q) K A alike

  others : (q : EntityUID) → is_member same_uid A q ≡ false → finmap.get (held_map n) q
      ≡ option_map (left_by removed R q) (finmap.get D q)
  others q out = seen_written m n removed L R is q ∙ at_others D removed L K R all who q (alike q ∙ out)
      (option_map (left_by removed R q) (finmap.get D q))

  -- An entity that loses nothing is as after the edit.
  quiet : (q : EntityUID) → is_member same_uid A q ≡ false → loses R q ≡ false
      → finmap.get (held_map n) q ≡ finmap.get M q
  quiet q out t =
      others q out ∙ still R whole removed q t (finmap.get D q)
      ∙ sym (edit_untouched x q
      (or_from (is_member same_uid A q) (list_any (ancestry D q) A) out (sym (loses_at q out) ∙ t)))

  bare_at : (q : EntityUID) → loses R q ≡ true → (o : Option EntityView)
      → option_map (left_by removed R q) o ≡ option_map bared (option_map (remains D (set.contains removed) A) o)
  bare_at q t None = refl
  bare_at q t (Some e) = λ i. Some (record e {
    parents = set.retain e.parents (λ p. not (t i && set.contains removed p));
    indirect = sym (all_retained e.indirect (loses_uid R q) (λ w. loses_whole R whole q w ∙ t)) i;
  })

  -- The map after all indirect ancestors were removed.
  pub written_forgets : Forgets (is_affected D A) A M (held_map n)
  written_forgets = record {
    alone = λ q t. let p = or_parts (is_member same_uid A q) (list_any (ancestry D q) A) t in
        quiet q p.0 (loses_at q p.0 ∙ p.1);
    either = λ q. at q (is_member same_uid A q) refl (loses R q) refl;
  }
    where
      at : (q : EntityUID) (b : Bool) → is_member same_uid A q ≡ b → (l : Bool) → loses R q ≡ l
          → (finmap.get (held_map n) q ≡ finmap.get M q)
          ⊎ ((is_member same_uid A q ≡ false) × (finmap.get (held_map n) q ≡ option_map bared (finmap.get M q)))
      at q true t l s = inl (seen_written m n removed L R is q ∙ at_applied D removed L K R all who q (alike q ∙ t)
          (option_map (left_by removed R q) (finmap.get D q))
          (option_map (remains D (set.contains removed) A) (finmap.get D q)) ∙ sym (x.made q))
      at q false out true s = inr (
        out,
        others q out ∙ bare_at q s (finmap.get D q)
            ∙ ap (option_map bared) (sym (made_outside x q out)),
      )
      at q false out false s = inl (quiet q out s)

none_last : (L : List EntityView) → L ≡ [] → (q : EntityUID) → last_entity L q ≡ None
none_last L none q = ap (λ l. last_entity l q) none

-- An edit is finalized as its steps are, whether they remove only stale ancestors or all.
pub edit_ends : {T X : Type 0} (recompute_all : Bool) (m n : HashMap EntityUID SharedEntity T) (removed : UidValues)
    (L : List EntityView) (M : EntityMap) (A K : List EntityUID) (R : List StaleAncestors) (row : EditRules) (E : EntityMap)
    (r : Result X EntitiesError) (f : EntityUID → Bool)
    → (recompute_all ≡ true → IsPlainHeld (held_map m)) → (recompute_all ≡ true → row.repairs ≡ true)
    → (recompute_all ≡ true → (computes row ≡ true) ⊎ (length L ≡ 0))
    → ((q : EntityUID) → set.contains removed q ≡ true → finmap.contains_key (held_map m) q ≡ true)
    → IsEdit (held_map m) M (set.contains removed) (last_entity L) A
    → ((q : EntityUID) → is_member same_uid K q ≡ (is_member same_uid (uids_of L) q || set.contains removed q))
    → ((q : EntityUID) → loses R q ≡ is_stripped K q (ancestry (held_map m) q))
    → AreLossesOf recompute_all (finmap.get (held_map m)) K R
    → IsWritten removed L R (entity_at m) (entity_at n)
    → f ≡ is_affected (held_map m) A → Ends row f (held_map n) E r → Ends row (is_affected (held_map m) A) M E r
edit_ends false m n removed L M A K R row E r f plain repairs acyclic there x all who lost is same ends =
    subst (λ g. Ends row g M E r) same
    (subst (λ B. Ends row f B E r)
    (edit_same (held_map m) (held_map n) M (set.contains removed) (last_entity L) K A
    (written_edit m n removed L K R all who lost is) x) ends)
edit_ends true m n removed L M A K R row E r f plain repairs acyclic there x all who lost is same ends =
    let p = plain refl in
    renewed p.1 x there (written_forgets m n removed L M A K R x all who lost is) row E r (repairs refl)
    (elim (acyclic refl) [ inl t ↦ inl t | inr none ↦ inr (none_last L (nil_from_length L none)) ])
    (subst (λ g. Ends row g (held_map n) E r) same ends)

-- The map after all indirect ancestors were removed, by a test.
forgets_by : (affected within : EntityUID → Bool) (A : List EntityUID) (M N : EntityMap)
    → ((q : EntityUID) → within q ≡ is_member same_uid A q)
    → ((q : EntityUID) → finmap.get N q
    ≡ cond (affected q && not (within q)) (option_map bared (finmap.get M q)) (finmap.get M q)) → Forgets affected A M N
forgets_by affected within A M N same is = record {
  alone = λ q t. is q ∙ ap (λ b. cond (b && not (within q)) (option_map bared (finmap.get M q)) (finmap.get M q)) t;
  either = λ q. at q (affected q && not (within q)) refl;
}
  where
    at : (q : EntityUID) (b : Bool) → (affected q && not (within q)) ≡ b → (finmap.get N q ≡ finmap.get M q)
        ⊎ ((is_member same_uid A q ≡ false) × (finmap.get N q ≡ option_map bared (finmap.get M q)))
    at q false s = inl (is q ∙ ap (λ b. cond b (option_map bared (finmap.get M q)) (finmap.get M q)) s)
    at q true s = inr (
      sym (same q) ∙ not-true (within q) (and_parts (affected q) (not (within q)) s).1,
      is q ∙ ap (λ b. cond b (option_map bared (finmap.get M q)) (finmap.get M q)) s,
    )

-- The entity map after all indirect ancestors were removed.
seen_forgot : {T : Type 0} (n o : HashMap EntityUID SharedEntity T) (b : EntityUID → Bool)
    → ((q : EntityUID) → entity_at o q ≡ cond (b q) (option_map bared (entity_at n q)) (entity_at n q)) → (q : EntityUID)
    → finmap.get (held_map o) q
    ≡ cond (b q) (option_map bared (finmap.get (held_map n) q)) (finmap.get (held_map n) q)
seen_forgot n o b is q =
    get_seen o q ∙ is q ∙ ap (λ f. cond (b q) (option_map bared (f q)) (f q)) (stored n (held_map n) refl)

pub parents_forgot : (b : Bool) (o : Option EntityView) (p : EntityUID)
    → is_parent_at (cond b (option_map bared o) o) p ≡ is_parent_at o p
parents_forgot true None p = refl
parents_forgot true (Some e) p = refl
parents_forgot false o p = refl

pub add_ends : {T X : Type 0} (recompute_all : Bool) (m n o : HashMap EntityUID SharedEntity T) (L : List EntityView)
    (A : List EntityUID) (row : EditRules) (E : EntityMap) (r : Result X EntitiesError) (f : EntityUID → Bool)
    → (recompute_all ≡ true → IsPlainHeld (held_map m)) → (recompute_all ≡ true → computes row ≡ true)
    → held_map n ≡ with_first (held_map m) L
    → ((q : EntityUID) → is_member same_uid A q ≡ is_member same_uid (inserted_in (held_map m) L) q)
    → ((q : EntityUID) → entity_at o q
    ≡ cond (recompute_all && (f q && not (is_member same_uid A q))) (option_map bared (entity_at n q)) (entity_at n q))
    → f ≡ is_affected (held_map m) (inserted_in (held_map m) L) → Ends row f (held_map o) E r
    → Ends row (is_affected (held_map m) (inserted_in (held_map m) L)) (held_map n) E r
add_ends false m n o L A row E r f plain now put alike is same ends =
    subst (λ g. Ends row g (held_map n) E r) same
    (subst (λ B. Ends row f B E r)
    (seen_as o (held_map n) (λ q. is q ∙ ap (λ g. g q) (stored n (held_map n) refl))) ends)
add_ends true m n o L A row E r f plain now put alike is same ends =
    let D = held_map m in
    let J = inserted_in D L in
    let p = plain refl in
    let given = and_parts (row.repairs && row.refuses_cycles) (not row.checks) (now refl) in
    subst (λ B. Ends row (is_affected D J) B E r) (sym put)
    (renewed p.1 (add_edit D L) (λ q t. absurd (false≢true t))
    (forgets_by (is_affected D J) (is_member same_uid A) J (with_first D L) (held_map o) alike
    (λ q. seen_forgot n o (λ y. f y && not (is_member same_uid A y)) is q
    ∙ (λ i. cond (same i q && not (is_member same_uid A q)) (option_map bared (finmap.get (put i) q))
    (finmap.get (put i) q)))) row E r
    (and_parts row.repairs row.refuses_cycles given.0).0 (inl (now refl))
    (subst (λ g. Ends row g (held_map o) E r) same ends))
