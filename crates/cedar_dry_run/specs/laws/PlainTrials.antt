-- An edit of the slice of an acyclic input store, at the listed uids and their parents, has the result of the edit of
-- the input store.
use Rattle.std.specs.Prelude.{◌≡◌, ◌↔◌, Bool, true, false, cond, List, Option, Some, None, map, Result}
use Rattle.std.specs.Prelude.{Ok, Err}
use Rattle.std.proofs.Common.{ap, sym, refl, subst, ◌∙◌, inl, inr, true≢false}
use Rattle.std.proofs.lemmas.Bool.{false≢true}
use Rattle.std.specs.List.{AllByRecursion}
use Rattle.std.specs.Option.{IfSome, option_or}
use Rattle.std.specs.FinSet as set
use Rattle.std.specs.FinMap as finmap
use Rattle.cedar_graph.specs.Graph.{Reach, HasNoCycle}
use Rattle.cedar_graph.specs.Faults.{vertex_of}
use Rattle.cedar_graph.specs.laws.Reaches.{reach_edge, reach_trans}
use Rattle.cedar_graph.specs.declared.err.TcError.{TcError}
use Rattle.cedar_graph.specs.declared.err.TcError.TheVariants as tc
use Rattle.cedar_ids.specs.UidOf.{uid_order}
use Rattle.cedar_ids.specs.declared.entity.EntityUID.{EntityUID}
use Rattle.cedar_uid_sets.specs.laws.Sets.{one_equal}
use Rattle.cedar_entity.specs.declared.err.EntitiesError.{EntitiesError}
use Rattle.cedar_entities.specs.Calls.{Add, Upsert}
use Rattle.cedar_entity_maps.specs.EditErrors.{NamesCycle, IsAddError, IsOverwriteError}
use Rattle.cedar_entity_maps.specs.InputStore.{InputStore, Parts, InputEntity, graph, is_parent_in, entry_of, first, added, overwritten}
use Rattle.cedar_entity_maps.specs.InputStore.{reversed, Agrees, AgreesWith, AllAgree, FirstDiffers, IsCyclic}
use Rattle.cedar_entity_maps.specs.laws.EditErrors.{refusal_cases}
use Rattle.cedar_entity_maps.specs.laws.InputStores.{get_added, get_overwritten}
use Rattle.cedar_slice.specs.Slices.{IsSliceOf}
use Rattle.cedar_dry_run.specs.Trials.{Tries}
use Rattle.cedar_dry_run.specs.laws.Found.{find_holds, all_mapped, all_reversed, all_both, all_before, or_none}
use Rattle.cedar_dry_run.specs.laws.Parts.{reach_in, cycle_in, reach_out}

-- Holds if the uid and its parents pass the test.
abbrev pub PassesWith : (EntityUID → Bool) → EntityUID → Parts → Type 0
PassesWith test u p = (test u ≡ true) × ((b : EntityUID) → set.contains p.parents b ≡ true → test b ≡ true)

-- Holds if the uids of all entities of the list, and their parents, pass the test.
abbrev pub AreCovered : (EntityUID → Bool) → List InputEntity → Type 0
AreCovered test L = AllByRecursion (λ g. PassesWith test g.uid g.parts) L

-- A uid that does not pass has no entity.
none_found : (t : Bool) (P : Parts → Type 0) (o : Option Parts) → IfSome o (λ p. (t ≡ true) × P p) → t ≡ false
    → o ≡ None
none_found t P None h f = refl
none_found t P (Some p) h f = absurd (true≢false (sym h.0 ∙ f))

-- A parent in one of two optional entities is a parent of the first or of the second.
either_parent : (o f : Option Parts) (b : EntityUID) (P : Type 0) → (is_parent_in o b ≡ true → P)
    → (is_parent_in f b ≡ true → P) → is_parent_in (option_or o f) b ≡ true → P
either_parent None f b P g h k = h k
either_parent (Some p) f b P g h k = g k

found_parent : (Q : Parts → Type 0) (f : Option Parts) (b : EntityUID) (P : Type 0)
    → ((p : Parts) → Q p → set.contains p.parents b ≡ true → P) → IfSome f Q → is_parent_in f b ≡ true → P
found_parent Q None b P g h k = absurd (false≢true k)
found_parent Q (Some p) b P g h k = g p h k

module _ (W V : InputStore) (U : List EntityUID) (slice : IsSliceOf W U V) where
  get_part : (q : EntityUID) → finmap.get V.entities q ≡ cond (slice.test q) (finmap.get W.entities q) None
  get_part q = ap (λ (X : InputStore). finmap.get X.entities q) slice.entries
      ∙ finmap.get-retain_keys W.entities slice.test q (λ x t. ap slice.test (sym (one_equal q x t)))

  pub get_same : (q : EntityUID) → slice.test q ≡ true → finmap.get V.entities q ≡ finmap.get W.entities q
  get_same q t = get_part q ∙ ap (λ b. cond b (finmap.get W.entities q) None) t

  pub get_none : (q : EntityUID) → slice.test q ≡ false → finmap.get V.entities q ≡ None
  get_none q f = get_part q ∙ ap (λ b. cond b (finmap.get W.entities q) None) f

  -- A parent of a selected uid is selected.
  pub next_wanted : (a b : EntityUID) → slice.test a ≡ true → graph W a b ≡ true → slice.test b ≡ true
  next_wanted a b h g =
      let w = (slice.passes a).0 h in
      (slice.passes b).1 (record {
        from = w.from;
        asked = w.asked;
        leads = elim w.leads [
          | inl e ↦ inr (subst (λ x. Reach (graph W) x b) (sym e) (reach_edge (graph W) a b g))
          | inr r ↦ inr (reach_trans (graph W) w.from a b r (reach_edge (graph W) a b g))
        ];
      })

  same_parents : (a b : EntityUID) → slice.test a ≡ true → graph V a b ≡ graph W a b
  same_parents a b t = ap (λ o. is_parent_in o b) (get_same a t)

  no_parents : (a b : EntityUID) → slice.test a ≡ false → graph V a b ≡ false
  no_parents a b f = ap (λ o. is_parent_in o b) (get_none a f)

  -- A selected uid reaches the same uids in the slice as in the input store.
  same_reach : (u : EntityUID) → slice.test u ≡ true → (q : EntityUID) → Reach (graph V) u q ↔ Reach (graph W) u q
  same_reach u t q = (
    reach_out slice.test (graph W) (graph V) same_parents no_parents u q,
    reach_in slice.test (graph W) (graph V) (λ a b h g. (same_parents a b h ∙ g, next_wanted a b h g)) u q t,
  )

  agree_at : (M : List InputEntity) (g : InputEntity) → slice.test g.uid ≡ true → (o : Option Parts)
      → AgreesWith V M o g ↔ AgreesWith W M o g
  agree_at M g t None = (λ h. h, λ h. h)
  agree_at M g t (Some p) = (
    λ h. (h.0, h.1, λ q. (λ k. (same_reach g.uid t q).0 ((h.2 q).0 k), λ r. (h.2 q).1 ((same_reach g.uid t q).1 r))),
    λ h. (h.0, h.1, λ q. (λ k. (same_reach g.uid t q).1 ((h.2 q).0 k), λ r. (h.2 q).1 ((same_reach g.uid t q).0 r))),
  )

  -- A selected entity agrees with the slice if and only if it agrees with the input store.
  agree_alike : (M : List InputEntity) (g : InputEntity) → slice.test g.uid ≡ true → Agrees V M g ↔ Agrees W M g
  agree_alike M g t = let both = agree_at M g t (finmap.get W.entities g.uid) in (
    λ h. both.0 (subst (λ o. AgreesWith V M o g) (get_same g.uid t) h),
    λ h. subst (λ o. AgreesWith V M o g) (sym (get_same g.uid t)) (both.1 h),
  )

  -- The same for each entity of a list.
  all_agree : (M L : List InputEntity) → AreCovered slice.test L → AllByRecursion (Agrees V M) L
      → AllByRecursion (Agrees W M) L
  all_agree M L c a = all_both (λ g. PassesWith slice.test g.uid g.parts) (Agrees V M) (Agrees W M)
      (λ g p h. (agree_alike M g p.0).0 h) L c a

  -- The first entity that differs is the same for both.
  differs_alike : (L : List InputEntity) (u : EntityUID) → AreCovered slice.test L → FirstDiffers V L u → FirstDiffers W L u
  differs_alike L u c d =
      let parts = all_before (λ g. PassesWith slice.test g.uid g.parts) d.before d.at d.after
      (subst (AreCovered slice.test) d.place c) in
      record {
        before = d.before;
        at = d.at;
        after = d.after;
        place = d.place;
        agree = all_agree L d.before parts.0 d.agree;
        differs = λ h. d.differs ((agree_alike L d.at parts.1.0).1 h);
        uid = d.uid;
      }

  -- N is the input store after an edit, and M the slice after the edit. They have the same entities at selected uids.
  -- At other uids M has none, and N has the entities of the input store.
  module _ (N M : InputStore) (same : (a : EntityUID) → slice.test a ≡ true
      → finmap.get M.entities a ≡ finmap.get N.entities a)
      (none : (a : EntityUID) → slice.test a ≡ false → finmap.get M.entities a ≡ None)
      (old : (a : EntityUID) → slice.test a ≡ false → finmap.get N.entities a ≡ finmap.get W.entities a)
      (next : (a b : EntityUID) → slice.test a ≡ true → graph N a b ≡ true → slice.test b ≡ true) where
    -- A uid that reaches itself in M reaches itself in N.
    cycle_up : (v : EntityUID) → Reach (graph M) v v → Reach (graph N) v v
    cycle_up v = reach_out slice.test (graph N) (graph M) (λ a b t. ap (λ o. is_parent_in o b) (same a t))
        (λ a b f. ap (λ o. is_parent_in o b) (none a f)) v v

    -- A cycle of N is a cycle of M.
    cycle_down : HasNoCycle (graph W) → IsCyclic N → IsCyclic M
    cycle_down acyclic c = (
      c.0,
      cycle_in slice.test (graph N) (graph M)
          (λ a b t g. (ap (λ o. is_parent_in o b) (same a t) ∙ g, next a b t g)) (graph W)
          (λ a b f g. sym (ap (λ o. is_parent_in o b) (old a f)) ∙ g) acyclic c.0 c.1,
    )

    -- An error that names a cycle of M names a cycle of N.
    names_up : (t : TcError EntityUID) → NamesCycle M t → NamesCycle N t
    names_up (tc.MissingTcEdge e) h = h
    names_up (tc.HasCycle e) h = cycle_up (vertex_of e) h
    names_up tc.Memory h = h

  module _ (L : List InputEntity) (covered : AreCovered slice.test L) where
    first_passes : (q : EntityUID) → IfSome (first L q) (PassesWith slice.test q)
    first_passes q = find_holds (PassesWith slice.test) (map entry_of L) q
        (all_mapped entry_of (λ e. PassesWith slice.test e.0 e.1) L covered)

    last_passes : (q : EntityUID) → IfSome (finmap.find uid_order q (reversed (map entry_of L)))
        (PassesWith slice.test q)
    last_passes q = find_holds (PassesWith slice.test) (reversed (map entry_of L)) q
        (all_reversed (λ e. PassesWith slice.test e.0 e.1) (map entry_of L)
        (all_mapped entry_of (λ e. PassesWith slice.test e.0 e.1) L covered))

    pub same_added : (a : EntityUID) → slice.test a ≡ true
        → finmap.get (added V L).entities a ≡ finmap.get (added W L).entities a
    same_added a t = get_added V L a ∙ ap (λ o. option_or o (first L a)) (get_same a t) ∙ sym (get_added W L a)

    no_first : (a : EntityUID) → slice.test a ≡ false → first L a ≡ None
    no_first a f = none_found (slice.test a) (λ p. (b : EntityUID) → set.contains p.parents b ≡ true
        → slice.test b ≡ true) (first L a) (first_passes a) f

    pub none_added : (a : EntityUID) → slice.test a ≡ false → finmap.get (added V L).entities a ≡ None
    none_added a f = get_added V L a ∙ ap (λ o. option_or o (first L a)) (get_none a f) ∙ no_first a f

    pub old_added : (a : EntityUID) → slice.test a ≡ false
        → finmap.get (added W L).entities a ≡ finmap.get W.entities a
    old_added a f = get_added W L a ∙ ap (option_or (finmap.get W.entities a)) (no_first a f)
        ∙ or_none (finmap.get W.entities a)

    pub next_added : (a b : EntityUID) → slice.test a ≡ true → graph (added W L) a b ≡ true → slice.test b ≡ true
    next_added a b t g = either_parent (finmap.get W.entities a) (first L a) b (slice.test b ≡ true) (next_wanted a b t)
        (found_parent (PassesWith slice.test a) (first L a) b (slice.test b ≡ true) (λ p q k. q.1 b k) (first_passes a))
        (sym (ap (λ o. is_parent_in o b) (get_added W L a)) ∙ g)

    -- Adding the list to the slice has the result of adding it to the input store.
    pub adding_alike : {A : Type 0} → HasNoCycle (graph W) → (r : Result A EntitiesError) → Tries V (Add L) r
        → Tries W (Add L) r
    adding_alike acyclic (Ok x) h = (
      all_agree L L covered h.0,
      λ c. h.1 (cycle_down (added W L) (added V L) same_added none_added old_added next_added acyclic c),
    )
    adding_alike acyclic (Err e) h = refusal_cases (FirstDiffers V L) (λ t. AllAgree V L × NamesCycle (added V L) t)
        (IsAddError W L) (λ u d. differs_alike L u covered d)
        (λ t k. (
          all_agree L L covered k.0,
          names_up (added W L) (added V L) same_added none_added old_added next_added t
              k.1,
        ))
        tt e h

    -- The last entity of the list with a uid.
    abbrev last : EntityUID → Option Parts
    last q = finmap.find uid_order q (reversed (map entry_of L))

    no_last : (a : EntityUID) → slice.test a ≡ false → last a ≡ None
    no_last a f = none_found (slice.test a) (λ p. (b : EntityUID) → set.contains p.parents b ≡ true
        → slice.test b ≡ true) (last a) (last_passes a) f

    pub same_over : (a : EntityUID) → slice.test a ≡ true
        → finmap.get (overwritten V L).entities a ≡ finmap.get (overwritten W L).entities a
    same_over a t = get_overwritten V L a ∙ ap (option_or (last a)) (get_same a t) ∙ sym (get_overwritten W L a)

    pub none_over : (a : EntityUID) → slice.test a ≡ false → finmap.get (overwritten V L).entities a ≡ None
    none_over a f = get_overwritten V L a ∙ ap (λ o. option_or o (finmap.get V.entities a)) (no_last a f)
        ∙ get_none a f

    pub old_over : (a : EntityUID) → slice.test a ≡ false
        → finmap.get (overwritten W L).entities a ≡ finmap.get W.entities a
    old_over a f = get_overwritten W L a ∙ ap (λ o. option_or o (finmap.get W.entities a)) (no_last a f)

    pub next_over : (a b : EntityUID) → slice.test a ≡ true → graph (overwritten W L) a b ≡ true → slice.test b ≡ true
    next_over a b t g = either_parent (last a) (finmap.get W.entities a) b (slice.test b ≡ true)
        (found_parent (PassesWith slice.test a) (last a) b (slice.test b ≡ true) (λ p q k. q.1 b k) (last_passes a))
        (next_wanted a b t) (sym (ap (λ o. is_parent_in o b) (get_overwritten W L a)) ∙ g)

    -- Overwriting the slice with the list has the result of overwriting the input store.
    pub overwriting_alike : {A : Type 0} → HasNoCycle (graph W) → (r : Result A EntitiesError) → Tries V (Upsert L) r
        → Tries W (Upsert L) r
    overwriting_alike acyclic (Ok x) h = λ c.
        h (cycle_down (overwritten W L) (overwritten V L) same_over none_over old_over next_over acyclic c)
    overwriting_alike acyclic (Err e) h = refusal_cases (λ _. ⊥) (NamesCycle (overwritten V L)) (IsOverwriteError W L)
        (λ u d. d)
        (λ t k. names_up (overwritten W L) (overwritten V L) same_over none_over old_over next_over t k) tt e h
