-- An edit of a part of an entity map that contains the listed uids fails only with an error of the edit of the whole,
-- for any store.
use Rattle.std.specs.Prelude.{◌≡◌, Bool, true, false, cond, not, ◌&&◌, ◌||◌, List, Option, Some, None}
use Rattle.std.specs.Prelude.{map}
use Rattle.std.proofs.Common.{ap, sym, refl, subst, ◌∙◌, inl, inr, true≢false}
use Rattle.std.proofs.lemmas.Bool.{false≢true, or_cases, or_left, or_right}
use Rattle.std.specs.List.{AllByRecursion, list_any}
use Rattle.std.specs.Option.{IfSome, is_some, option_map, option_or, unwrap_or}
use Rattle.std.specs.Set.{is_member}
use Rattle.std.specs.FinSet as set
use Rattle.std.specs.FinMap as finmap
use Rattle.cedar_graph.specs.Faults.{vertex_of}
use Rattle.cedar_graph.specs.declared.err.TcError.{TcError}
use Rattle.cedar_graph.specs.declared.err.TcError.TheVariants as tc
use Rattle.cedar_ids.specs.UidOf.{uid_order, same_uid}
use Rattle.cedar_ids.specs.declared.entity.EntityUID.{EntityUID}
use Rattle.cedar_uid_sets.specs.laws.Sets.{one_equal}
use Rattle.cedar_entity.specs.View.{EntityView, IsDeepEqual, has_ancestor}
use Rattle.cedar_entity.specs.declared.err.EntitiesError.{EntitiesError}
use Rattle.cedar_entity.specs.declared.err.EntitiesError.TheVariants as errors
use Rattle.cedar_entity_maps.specs.Edits.{is_stale, without_stale, overwrite, uids_of}
use Rattle.cedar_entity_maps.specs.Modes.{ancestry, is_ancestor_in, ReportsCycle}
use Rattle.cedar_entity_maps.specs.Plain.{EntityMap}
use Rattle.cedar_entities.specs.Present.{first_entity, present, with_first, AllMatch, FirstMismatch, MatchesPresent}
use Rattle.cedar_entity_maps.specs.Plain.{keyed}
use Rattle.cedar_entity_maps.specs.EditErrors.{MatchError, NamesOneOf}
use Rattle.cedar_entity_maps.specs.Affected.{inserted_in, is_affected}
use Rattle.cedar_entity_maps.specs.InputStore.{reversed}
use Rattle.cedar_entity_maps.specs.laws.EditErrors.{refusal_cases}
use Rattle.cedar_entity_maps.specs.laws.Edits.{last_entity}
use Rattle.cedar_entity_maps.specs.laws.InputStores.{get_joined, find-mapped}
use Rattle.cedar_slice.specs.Slices.{is_wanted, sliced}
use Rattle.cedar_slice.specs.laws.OneSlice.{asked_is_wanted}
use Rattle.cedar_dry_run.specs.Trials.{IsDryAddError, IsDryUpsertError}
use Rattle.cedar_dry_run.specs.laws.Requested.{IsAsked, AreAsked}
use Rattle.cedar_dry_run.specs.laws.Found.{all_along, all_before, all_both, all_mapped, all_reversed, any_alike, any_more}
use Rattle.cedar_dry_run.specs.laws.Found.{filter_alike, find_holds, or_none}
use Rattle.cedar_dry_run.specs.laws.Parts.{reach_out}

nothing_at : (t : Bool) (o : Option EntityView) → IfSome o (λ e. t ≡ true) → t ≡ false → o ≡ None
nothing_at t None h f = refl
nothing_at t (Some e) h f = absurd (true≢false (sym h ∙ f))

get_with_first : (D : EntityMap) (L : List EntityView) (q : EntityUID)
    → finmap.get (with_first D L) q ≡ option_or (finmap.get D q) (first_entity L q)
get_with_first D L q = get_joined (finmap.entries D) (map keyed L) q
    ∙ ap (λ o. option_or o (first_entity L q)) (sym (finmap.get-entries D q))

-- The entity at a uid after an overwriting.
pub get_put_over : (D : EntityMap) (L : List EntityView) (q : EntityUID)
    → finmap.get (overwrite D L) q ≡ option_or (last_entity L q) (option_map (without_stale D (uids_of L)) (finmap.get D q))
get_put_over D L q =
    get_joined (reversed (map keyed L)) (map (λ e. (e.0, without_stale D (uids_of L) e.1)) (finmap.entries D)) q
    ∙ ap (option_or (last_entity L q)) (find-mapped (without_stale D (uids_of L)) (finmap.entries D) q
    ∙ ap (option_map (without_stale D (uids_of L))) (sym (finmap.get-entries D q)))

module _ (D : EntityMap) (U : List EntityUID) where
  abbrev part : EntityMap
  part = sliced D U

  get_part : (q : EntityUID) → finmap.get part q ≡ cond (is_wanted D U q) (finmap.get D q) None
  get_part q = finmap.get-retain_keys D (is_wanted D U) q (λ x t. ap (is_wanted D U) (sym (one_equal q x t)))

  -- The part has the same entity at a selected uid.
  pub get_same : (q : EntityUID) → is_wanted D U q ≡ true → finmap.get part q ≡ finmap.get D q
  get_same q t = get_part q ∙ ap (λ b. cond b (finmap.get D q) None) t

  -- The part has no other entity.
  pub get_none : (q : EntityUID) → is_wanted D U q ≡ false → finmap.get part q ≡ None
  get_none q f = get_part q ∙ ap (λ b. cond b (finmap.get D q) None) f

  get_asked : (q : EntityUID) → is_member same_uid U q ≡ true → finmap.get part q ≡ finmap.get D q
  get_asked q m = get_same q (asked_is_wanted D U q m)

  ancestor_kept : (t : Bool) (o : Option EntityView) (b : EntityUID) → is_ancestor_in (cond t o None) b ≡ true
      → is_ancestor_in o b ≡ true
  ancestor_kept true o b h = h
  ancestor_kept false o b h = absurd (false≢true h)

  -- An ancestor in the part is an ancestor in the whole.
  ancestry_out : (a b : EntityUID) → ancestry part a b ≡ true → ancestry D a b ≡ true
  ancestry_out a b h = ancestor_kept (is_wanted D U a) (finmap.get D a) b
      (sym (ap (λ o. is_ancestor_in o b) (get_part a)) ∙ h)

  -- An entity that is affected in the part is affected in the whole.
  touched_out : (A : List EntityUID) (q : EntityUID) → is_affected part A q ≡ true → is_affected D A q ≡ true
  touched_out A q h = elim (or_cases (is_member same_uid A q) (list_any (ancestry part q) A) h) [
    | inl m ↦ or_left (is_member same_uid A q) (list_any (ancestry D q) A) m
    | inr r ↦ or_right (is_member same_uid A q) (list_any (ancestry D q) A)
        (any_more (ancestry part q) (ancestry D q) (ancestry_out q) A r)
  ]

  names_out : (A : List EntityUID) (e : EntitiesError) → NamesOneOf (is_affected part A) e → NamesOneOf (is_affected D A) e
  names_out A (errors.Duplicate u) h = h
  names_out A (errors.TransitiveClosureError (tc.MissingTcEdge e)) h = h
  names_out A (errors.TransitiveClosureError (tc.HasCycle e)) h = touched_out A (vertex_of e) h
  names_out A (errors.TransitiveClosureError tc.Memory) h = h
  names_out A (errors.SelfAncestor u) h = h
  names_out A (errors.DuplicateAncestor u a) h = h
  names_out A (errors.ActionParentIsNotAction u p) h = h
  names_out A (errors.ReservedKey k) h = h
  names_out A errors.Memory h = h

  module _ (A : List EntityUID) (asked : AllByRecursion (λ u. is_member same_uid U u ≡ true) A) where
    goes_alike : (e : EntityView) (w : EntityUID) → list_any (is_stale part e w) A ≡ list_any (is_stale D e w) A
    goes_alike e w = any_alike (is_stale part e w) (is_stale D e w) A
        (all_along (λ u. is_member same_uid U u ≡ true) (λ u. is_stale part e w u ≡ is_stale D e w u)
        (λ u m. ap (λ (o : Option EntityView). (is_some o && has_ancestor e u) && (same_uid u w || is_ancestor_in o w))
        (get_asked u m)) A asked)

    -- The stale ancestors after an edit of requested uids are the same in the part as in the whole.
    pub stale_alike : without_stale part A ≡ without_stale D A
    stale_alike = λ i e. record e { indirect = set.retain e.indirect (λ w. not (goes_alike e w i)) }

  module _ (L : List EntityView) (asked : AreAsked U L) where
    matches_alike : (e : EntityView) → IsAsked U e
        → present (finmap.get part) L e ≡ present (finmap.get D) L e
    matches_alike e a = ap (λ o. unwrap_or (option_or o (first_entity L e.uid)) e) (get_asked e.uid a.0)

    match_of : (e : EntityView) → IsAsked U e → MatchesPresent (finmap.get part) L e → MatchesPresent (finmap.get D) L e
    match_of e a h = subst (λ x. IsDeepEqual x e) (matches_alike e a) h

    -- If each entity of a list matches the part, each matches the whole.
    pub all_match : (M : List EntityView) → AreAsked U M → AllByRecursion (MatchesPresent (finmap.get part) L) M
        → AllByRecursion (MatchesPresent (finmap.get D) L) M
    all_match M a h = all_both (IsAsked U) (MatchesPresent (finmap.get part) L) (MatchesPresent (finmap.get D) L) match_of
        M a h

    mismatch_out : (u : EntityUID) → FirstMismatch (finmap.get part) L u → FirstMismatch (finmap.get D) L u
    mismatch_out u m =
        let parts = all_before (IsAsked U) m.before m.at m.after (subst (AreAsked U) m.place asked) in
        record {
          before = m.before;
          at = m.at;
          after = m.after;
          place = m.place;
          agree = all_match m.before parts.0 m.agree;
          differs = λ h. m.differs (subst (λ x. IsDeepEqual x m.at) (sym (matches_alike m.at parts.1)) h);
          uid = m.uid;
        }

    keyed_wanted : AllByRecursion (λ e. is_wanted D U e.0 ≡ true) (map keyed L)
    keyed_wanted = all_mapped keyed (λ e. is_wanted D U e.0 ≡ true) L
        (all_along (IsAsked U) (λ e. is_wanted D U e.uid ≡ true) (λ e a. asked_is_wanted D U e.uid a.0) L asked)

    no_first : (q : EntityUID) → is_wanted D U q ≡ false → first_entity L q ≡ None
    no_first q f = nothing_at (is_wanted D U q) (first_entity L q)
        (find_holds (λ k _. is_wanted D U k ≡ true) (map keyed L) q keyed_wanted) f

    no_last : (q : EntityUID) → is_wanted D U q ≡ false → last_entity L q ≡ None
    no_last q f = nothing_at (is_wanted D U q) (last_entity L q)
        (find_holds (λ k _. is_wanted D U k ≡ true) (reversed (map keyed L)) q
        (all_reversed (λ e. is_wanted D U e.0 ≡ true) (map keyed L) keyed_wanted)) f

    -- After an addition, the part has the same entities as the whole at the selected uids.
    pub first_alike : (a : EntityUID) → is_wanted D U a ≡ true
        → finmap.get (with_first part L) a ≡ finmap.get (with_first D L) a
    first_alike a t = get_with_first part L a ∙ ap (λ o. option_or o (first_entity L a)) (get_same a t)
        ∙ sym (get_with_first D L a)

    -- It has no others.
    pub first_none : (a : EntityUID) → is_wanted D U a ≡ false → finmap.get (with_first part L) a ≡ None
    first_none a f = get_with_first part L a ∙ ap (λ o. option_or o (first_entity L a)) (get_none a f) ∙ no_first a f

    -- An addition changes only entities at selected uids.
    pub first_old : (a : EntityUID) → is_wanted D U a ≡ false → finmap.get (with_first D L) a ≡ finmap.get D a
    first_old a f = get_with_first D L a ∙ ap (option_or (finmap.get D a)) (no_first a f) ∙ or_none (finmap.get D a)

    same_first : (a b : EntityUID) → is_wanted D U a ≡ true
        → ancestry (with_first part L) a b ≡ ancestry (with_first D L) a b
    same_first a b t = ap (λ o. is_ancestor_in o b) (first_alike a t)

    none_first : (a b : EntityUID) → is_wanted D U a ≡ false → ancestry (with_first part L) a b ≡ false
    none_first a b f = ap (λ o. is_ancestor_in o b) (first_none a f)

    cycle_out : (t : TcError EntityUID) → ReportsCycle (with_first part L) t
        → ReportsCycle (with_first D L) t
    cycle_out (tc.MissingTcEdge e) h = h
    cycle_out (tc.HasCycle e) h = reach_out (is_wanted D U) (ancestry (with_first D L)) (ancestry (with_first part L))
        same_first none_first (vertex_of e) (vertex_of e) h
    cycle_out tc.Memory h = h

    uids_asked : AllByRecursion (λ u. is_member same_uid U u ≡ true) (uids_of L)
    uids_asked = all_mapped (λ (e : EntityView). e.uid) (λ u. is_member same_uid U u ≡ true) L
        (all_along (IsAsked U) (λ e. is_member same_uid U e.uid ≡ true) (λ e a. a.0) L asked)

    -- An addition inserts the same uids into the part as into the whole.
    pub same_inserted : inserted_in part L ≡ inserted_in D L
    same_inserted = filter_alike (λ u. not (finmap.contains_key part u)) (λ u. not (finmap.contains_key D u)) (uids_of L)
        (all_along (λ u. is_member same_uid U u ≡ true)
        (λ u. not (finmap.contains_key part u) ≡ not (finmap.contains_key D u))
        (λ u m. ap (λ o. not (is_some o)) (get_asked u m)) (uids_of L) uids_asked)

    -- An error of adding the list to the part is an error of adding it to the whole.
    pub add_refusal : (e : EntitiesError) → IsDryAddError part L e → IsDryAddError D L e
    add_refusal e h = record {
      agree = tt;
      ok = tt;
      untouched = tt;
      err = refusal_cases (FirstMismatch (finmap.get part) L) (λ t. AllMatch (finmap.get part) L
          × ReportsCycle (with_first part L) t)
          (λ x. MatchError x (FirstMismatch (finmap.get D) L)
          (λ t. AllMatch (finmap.get D) L × ReportsCycle (with_first D L) t)) mismatch_out
          (λ t k. (all_match L asked k.0, cycle_out t k.1)) tt e h.err;
      named = names_out (inserted_in D L) e (subst (λ A. NamesOneOf (is_affected part A) e) same_inserted h.named);
    }

    -- After an overwriting, the part has the same entities as the whole at the selected uids.
    pub over_alike : (a : EntityUID) → is_wanted D U a ≡ true
        → finmap.get (overwrite part L) a ≡ finmap.get (overwrite D L) a
    over_alike a t = get_put_over part L a
        ∙ ap (λ f. option_or (last_entity L a) (option_map f (finmap.get part a))) (stale_alike (uids_of L) uids_asked)
        ∙ ap (λ o. option_or (last_entity L a) (option_map (without_stale D (uids_of L)) o)) (get_same a t)
        ∙ sym (get_put_over D L a)

    -- It has no others.
    pub over_none : (a : EntityUID) → is_wanted D U a ≡ false → finmap.get (overwrite part L) a ≡ None
    over_none a f = get_put_over part L a
        ∙ ap (λ o. option_or (last_entity L a) (option_map (without_stale part (uids_of L)) o)) (get_none a f)
        ∙ ap (λ o. option_or o None) (no_last a f)

    -- At the other uids, an overwriting removes only stale ancestors.
    pub over_old : (a : EntityUID) → is_wanted D U a ≡ false
        → finmap.get (overwrite D L) a ≡ option_map (without_stale D (uids_of L)) (finmap.get D a)
    over_old a f = get_put_over D L a
        ∙ ap (λ o. option_or o (option_map (without_stale D (uids_of L)) (finmap.get D a))) (no_last a f)

    same_over : (a b : EntityUID) → is_wanted D U a ≡ true
        → ancestry (overwrite part L) a b ≡ ancestry (overwrite D L) a b
    same_over a b t = ap (λ o. is_ancestor_in o b) (over_alike a t)

    none_over : (a b : EntityUID) → is_wanted D U a ≡ false → ancestry (overwrite part L) a b ≡ false
    none_over a b f = ap (λ o. is_ancestor_in o b) (over_none a f)

    over_out : (t : TcError EntityUID) → ReportsCycle (overwrite part L) t
        → ReportsCycle (overwrite D L) t
    over_out (tc.MissingTcEdge e) h = h
    over_out (tc.HasCycle e) h = reach_out (is_wanted D U) (ancestry (overwrite D L)) (ancestry (overwrite part L)) same_over
        none_over (vertex_of e) (vertex_of e) h
    over_out tc.Memory h = h

    -- An error of overwriting the part is an error of overwriting the whole.
    pub upsert_refusal : (e : EntitiesError) → IsDryUpsertError part L e → IsDryUpsertError D L e
    upsert_refusal e h = record {
      ok = tt;
      untouched = tt;
      err = refusal_cases (λ _. ⊥) (ReportsCycle (overwrite part L))
          (λ x. MatchError x (λ _. ⊥) (ReportsCycle (overwrite D L))) (λ u d. d) over_out tt e h.err;
      named = names_out (uids_of L) e h.named;
    }
