-- What removing uids from a part of a plain store changes.
use Rattle.std.specs.Prelude.{◌≡◌, ◌↔◌, Bool, true, false, cond, not, ◌&&◌, ◌||◌, List, map, Option, Some, None, Result, Ok, Err}
use Rattle.std.proofs.Common.{ap, sym, refl, subst, ◌∙◌, inl, inr}
use Rattle.std.proofs.lemmas.Bool.{and_parts, both_ways, false_from_ne_true, false≢true, or_parts}
use Rattle.std.specs.List.{AllByRecursion, list_any}
use Rattle.std.specs.Option.{is_some, option_map}
use Rattle.std.specs.Set.{is_member}
use Rattle.std.specs.FinSet as set
use Rattle.std.specs.FinMap as finmap
use Rattle.cedar_ids.specs.UidOf.{same_uid, uid_order}
use Rattle.cedar_ids.specs.declared.entity.EntityUID.{EntityUID}
use Rattle.cedar_entity.specs.View.{EntityView, has_ancestor}
use Rattle.cedar_entity.specs.declared.err.EntitiesError.{EntitiesError}
use Rattle.cedar_entity.specs.laws.UidSets.{kept_in}
use Rattle.cedar_entities.specs.Changes.{RemovesEntities, RemovesPlain}
use Rattle.cedar_entity_maps.specs.Affected.{is_affected, removed_from, IsRepaired, StaysUnaffected}
use Rattle.cedar_entity_maps.specs.Edits.{is_removed_by, removed_all, without_removed_parents, without_stale}
use Rattle.cedar_entity_maps.specs.InputStore.{InputStore, Parts, deleted, graph, is_parent_in, is_removed, without}
use Rattle.cedar_entity_maps.specs.Modes.{ancestry, is_ancestor_in}
use Rattle.cedar_entity_maps.specs.Plain.{EntityMap, StoreView, IsPlainStore, parts_of}
use Rattle.cedar_entity_maps.specs.declared.modes.TCComputation.TheVariants.{ComputeNow}
use Rattle.cedar_entity_maps.specs.laws.AnyOf.{any_filter, any_member, none_retained}
use Rattle.cedar_entity_maps.specs.laws.Indexes.{IsPlainHeld}
use Rattle.cedar_entity_maps.specs.laws.InputStores.{get_deleted, get_reduced}
use Rattle.cedar_entity_maps.specs.laws.PlainAncestors.{ancestry_plain}
use Rattle.cedar_graph.specs.laws.Reaches.{reach_edge}
use Rattle.cedar_slice.specs.Slices.{is_wanted, sliced, IsSliceOf}
use Rattle.cedar_slice.specs.laws.OneSlice.{asked_is_wanted}
use Rattle.cedar_dry_run.specs.laws.Found.{all_along, filter_alike}
use Rattle.cedar_dry_run.specs.laws.HeldTrials.{get_none, get_same, stale_alike}
use Rattle.cedar_dry_run.specs.laws.Parts.{passes_or_not}
use Rattle.cedar_dry_run.specs.laws.PlainTrials as trials
use Rattle.cedar_entity_diff.specs.Diffs.{DiffView, IsDiff}
use Rattle.cedar_entity_diff.specs.WouldChange.{IsRemoveResult, WouldChange}
use Rattle.cedar_entity_diff.specs.laws.Parts.{IsPartAt}
use Rattle.cedar_entity_diff.proofs.KeptReach.{ChangesOnly, reach_kept}
use Rattle.cedar_entity_diff.proofs.PartDiffs.{diff_of_part}
use Rattle.cedar_entity_diff.proofs.Repaired.{leaves_same, repaired}
use Rattle.cedar_entity_diff.proofs.Slicing.{affected_alike, all_members, by_wanted, member_filter, not_stale, plain_of_held}
use Rattle.cedar_entity_diff.proofs.Slicing.{unaffected}
use Rattle.cedar_entity_diff.proofs.United.{none_of, united, united_in, united_out, united_plain}

-- A test of the members of a list that two maps have.
both_have : (b x y : Bool) → (b ≡ true → x ≡ y) → (b && x) ≡ (b && y)
both_have true x y h = h refl
both_have false x y h = refl

none_left : {X Y : Type 0} (f : X → Y) (b : Bool) (o : Option X) → o ≡ None → option_map f (cond b o None) ≡ None
none_left f true o h = ap (option_map f) h
none_left f false o h = refl

parent_left : (removed : EntityUID → Bool) (o : Option Parts) (a b : EntityUID)
    → is_parent_in (option_map (λ p. (without removed (a, p)).1) o) b ≡ (is_parent_in o b && not (removed b))
parent_left removed None a b = refl
parent_left removed (Some p) a b = kept_in p.parents removed b

-- The parents of a uid that a removal does not remove.
graph_left : (W : InputStore) (us : List EntityUID) (a b : EntityUID) → is_removed W us a ≡ false
    → graph (deleted W us) a b ≡ (graph W a b && not (is_removed W us b))
graph_left W us a b h =
    ap (λ o. is_parent_in o b) (get_deleted W us a)
    ∙ ap (λ r. is_parent_in (option_map (λ p. (without (is_removed W us) (a, p)).1)
    (cond (not r) (finmap.get W.entities a) None)) b) h
    ∙ parent_left (is_removed W us) (finmap.get W.entities a) a b

left_parent : (removed : EntityUID → Bool) (r : Bool) (o : Option Parts) (a b : EntityUID)
    → is_parent_in (option_map (λ p. (without removed (a, p)).1) (cond (not r) o None)) b ≡ true → is_parent_in o b ≡ true
left_parent removed true o a b h = absurd (false≢true h)
left_parent removed false o a b h =
    (and_parts (is_parent_in o b) (not (removed b)) (sym (parent_left removed o a b) ∙ h)).0

-- A parent after a removal was a parent before.
graph_before : (W : InputStore) (us : List EntityUID) (a b : EntityUID) → graph (deleted W us) a b ≡ true
    → graph W a b ≡ true
graph_before W us a b h = left_parent (is_removed W us) (is_removed W us a) (finmap.get W.entities a) a b
    (ap (λ o. is_parent_in o b) (sym (get_deleted W us a)) ∙ h)

keep_edge : (g r : Bool) → (g ≡ true → r ≡ false) → g ≡ (g && not r)
keep_edge true r h = sym (ap not (h refl))
keep_edge false r h = refl

keep_parts : (removed : EntityUID → Bool) (o : Option Parts) (a : EntityUID)
    → ((x : EntityUID) → is_parent_in o x ≡ true → removed x ≡ false)
    → option_map (λ p. (without removed (a, p)).1) o ≡ o
keep_parts removed None a h = refl
keep_parts removed (Some p) a h = λ i. Some (record p { parents = none_retained p.parents removed h i })

-- An entity without a removed ancestor does not change.
keep_entity : (D : EntityMap) (us : List EntityUID) (o : Option EntityView)
    → list_any (λ u. finmap.contains_key D u && is_ancestor_in o u) us ≡ false
    → ((x : EntityUID) → is_ancestor_in o x ≡ true → is_removed_by D us x ≡ false)
    → option_map (λ e. without_removed_parents (is_removed_by D us) (without_stale D us e)) o ≡ o
keep_entity D us None h k = refl
keep_entity D us (Some e) h k =
    ap (λ x. Some (without_removed_parents (is_removed_by D us) x)) (not_stale D us e h)
    ∙ (λ i. Some (record e {
      parents = none_retained e.parents (is_removed_by D us)
          (λ x t. k x (ap (λ b. b || set.contains e.indirect x) t)) i;
    }))

get_removed : (D : EntityMap) (us : List EntityUID) (q : EntityUID)
    → finmap.get (removed_all D us) q
    ≡ option_map (λ e. without_removed_parents (is_removed_by D us) (without_stale D us e))
    (cond (not (is_removed_by D us q)) (finmap.get D q) None)
get_removed D us q = get_reduced (λ e. without_removed_parents (is_removed_by D us) (without_stale D us e)) D
    (is_removed_by D us) q

module _ (S : StoreView) (us : List EntityUID) (N : StoreView)
    (part : IsPartAt S us (removed_from S.entities us) N) where
  abbrev D : EntityMap
  D = S.entities

  abbrev U : List EntityUID
  U = part.uids

  abbrev A : List EntityUID
  A = removed_from D us

  abbrev test : EntityUID → Bool
  test = is_wanted D U

  out : (q : EntityUID) → test q ≡ false → is_affected D A q ≡ false
  out q f = unaffected D U A part.affected q f

  -- The removed uids are the listed ones that are stored.
  removed_is : (q : EntityUID) → is_removed_by D us q ≡ is_member same_uid A q
  removed_is q = sym (member_filter (finmap.contains_key D) us q)

  asked_all : AllByRecursion (λ u. is_member same_uid U u ≡ true) us
  asked_all = all_members (λ u. is_member same_uid U u ≡ true) us part.asked

  same_key : (q : EntityUID) → is_member same_uid U q ≡ true
      → finmap.contains_key (sliced D U) q ≡ finmap.contains_key D q
  same_key q m = ap is_some (get_same D U q (asked_is_wanted D U q m))

  removed_alike : is_removed_by (sliced D U) us ≡ is_removed_by D us
  removed_alike = λ i q. both_have (is_member same_uid us q) (finmap.contains_key (sliced D U) q) (finmap.contains_key D q)
      (λ m. same_key q (part.asked q m)) i

  removed_same : removed_from (sliced D U) us ≡ A
  removed_same = filter_alike (finmap.contains_key (sliced D U)) (finmap.contains_key D) us
      (all_along (λ u. is_member same_uid U u ≡ true)
      (λ u. finmap.contains_key (sliced D U) u ≡ finmap.contains_key D u) same_key us asked_all)

  alike : (q : EntityUID) → test q ≡ true
      → finmap.get (removed_all (sliced D U) us) q ≡ finmap.get (removed_all D us) q
  alike q t =
      get_removed (sliced D U) us q
      ∙ (λ i. option_map (λ e. without_removed_parents (removed_alike i) (stale_alike D U us asked_all i e))
      (cond (not (removed_alike i q)) (get_same D U q t i) None))
      ∙ sym (get_removed D us q)

  none : (q : EntityUID) → test q ≡ false → finmap.get (removed_all (sliced D U) us) q ≡ None
  none q f = get_removed (sliced D U) us q
      ∙ none_left (λ e. without_removed_parents (is_removed_by (sliced D U) us) (without_stale (sliced D U) us e))
      (not (is_removed_by (sliced D U) us q)) (finmap.get (sliced D U) q) (get_none D U q f)

  -- An entity that is not affected is not removed, and has no removed ancestor.
  not_removed : (q : EntityUID) → is_affected D A q ≡ false → is_removed_by D us q ≡ false
  not_removed q un = removed_is q ∙ (or_parts (is_member same_uid A q) (list_any (ancestry D q) A) un).0

  ancestor_stays : (q x : EntityUID) → is_affected D A q ≡ false → ancestry D q x ≡ true → is_removed_by D us x ≡ false
  ancestor_stays q x un h = removed_is x ∙ false_from_ne_true (is_member same_uid A x) (λ m.
      both_ways (list_any (ancestry D q) A) (or_parts (is_member same_uid A q) (list_any (ancestry D q) A) un).1
      (any_member (ancestry D q) A x m h))

  old : (q : EntityUID) → test q ≡ false → finmap.get (removed_all D us) q ≡ finmap.get D q
  old q f =
      get_removed D us q
      ∙ ap (λ b. option_map (λ e. without_removed_parents (is_removed_by D us) (without_stale D us e))
      (cond (not b) (finmap.get D q) None)) (not_removed q (out q f))
      ∙ keep_entity D us (finmap.get D q)
      (sym (any_filter (finmap.contains_key D) (ancestry D q) us)
      ∙ (or_parts (is_member same_uid A q) (list_any (ancestry D q) A) (out q f)).1)
      (λ x h. ancestor_stays q x (out q f) h)

  module _ (W : InputStore) (plain : IsPlainStore W S) where
    has_parts : (o : Option EntityView) → is_some (option_map parts_of o) ≡ is_some o
    has_parts None = refl
    has_parts (Some e) = refl

    -- The same uids are removed from the input store.
    removed_input : (q : EntityUID) → is_removed W us q ≡ is_removed_by D us q
    removed_input q = ap (λ b. is_member same_uid us q && b)
        (ap is_some (sym (plain.holds q)) ∙ has_parts (finmap.get D q))

    removes_only : ChangesOnly (graph W) (graph (deleted W us)) A
    removes_only a b h g =
        keep_edge (graph W a b) (is_removed W us b) (λ t. removed_input b ∙ removed_is b ∙ g t)
        ∙ sym (graph_left W us a b (removed_input a ∙ removed_is a ∙ h))

    old_input : (q : EntityUID) → test q ≡ false → finmap.get (deleted W us).entities q ≡ finmap.get W.entities q
    old_input q f =
        get_deleted W us q
        ∙ ap (λ b. option_map (λ p. (without (is_removed W us) (q, p)).1) (cond (not b) (finmap.get W.entities q) None))
        (removed_input q ∙ not_removed q (out q f))
        ∙ keep_parts (is_removed W us) (finmap.get W.entities q) q
        (λ x h. removed_input x
        ∙ ancestor_stays q x (out q f) ((ancestry_plain W S plain q x).1 (reach_edge (graph W) q x h)))

    module _ (V : InputStore) (slice : IsSliceOf W U V) where
      abbrev picked : IsSliceOf W U V
      picked = by_wanted W S plain U V slice

      removed_slice : is_removed V us ≡ is_removed W us
      removed_slice = λ i q. both_have (is_member same_uid us q) (finmap.contains_key V.entities q)
          (finmap.contains_key W.entities q)
          (λ m. ap is_some (trials.get_same W V U picked q (asked_is_wanted D U q (part.asked q m)))) i

      same_input : (q : EntityUID) → test q ≡ true
          → finmap.get (deleted V us).entities q ≡ finmap.get (deleted W us).entities q
      same_input q t =
          get_deleted V us q
          ∙ (λ i. option_map (λ p. (without (removed_slice i) (q, p)).1)
          (cond (not (removed_slice i q)) (trials.get_same W V U picked q t i) None))
          ∙ sym (get_deleted W us q)

      none_input : (q : EntityUID) → test q ≡ false → finmap.get (deleted V us).entities q ≡ None
      none_input q f = get_deleted V us q
          ∙ none_left (λ p. (without (is_removed V us) (q, p)).1) (not (is_removed V us q)) (finmap.get V.entities q)
          (trials.get_none W V U picked q f)

      next_input : (a b : EntityUID) → test a ≡ true → graph (deleted W us) a b ≡ true → test b ≡ true
      next_input a b t g = trials.next_wanted W V U picked a b t (graph_before W us a b g)

  -- A removal from the part fails only if an allocation fails.
  pub remove_error : IsPlainHeld D → (e : EntitiesError)
      → ((V : InputStore) → IsPlainStore V N → RemovesPlain V us (Err e)) → IsRemoveResult ComputeNow S us (Err e)
  remove_error held e plain =
      let W = plain_of_held S held in
      let s = part.plain W.0 W.1 in
      subst (λ x. IsRemoveResult ComputeNow S us (Err x)) (sym (plain s.input_store s.is_plain).err) (record {
        partial = tt;
        removes = record { ok = tt; untouched = tt; err = tt; named = tt };
        plain = λ Y p. record { ok = tt; err = refl };
      })

  module _ (R : StoreView) (removes_part : RemovesEntities ComputeNow N.entities us (Ok R))
      (plain : (V : InputStore) → IsPlainStore V N → RemovesPlain V us (Ok R)) where
    abbrev T : StoreView
    T = record S { entities = united D R.entities test }

    abbrev removes : RemovesEntities ComputeNow (sliced D U) us (Ok R)
    removes = subst (λ M. RemovesEntities ComputeNow M us (Ok R)) part.entities removes_part

    plain_after : (W : InputStore) → IsPlainStore W S → IsPlainStore (deleted W us) T
    plain_after W p =
        let s = part.plain W p in
        let V = s.input_store in
        united_plain W (deleted W us) S p (deleted V us) R (plain V s.is_plain).ok test
        (same_input W p V s.is_slice) (none_input W p V s.is_slice) (old_input W p) (next_input W p V s.is_slice)
        (λ q x f. reach_kept W (deleted W us) S p A (removes_only W p) q x (out q f)) refl

    module _ (held : IsPlainHeld D) where
      none_after : (q : EntityUID) → test q ≡ false → finmap.get R.entities q ≡ None
      none_after q f =
          let W = plain_of_held S held in
          let s = part.plain W.0 W.1 in
          none_of parts_of (finmap.get R.entities q)
          ((plain s.input_store s.is_plain).ok.holds q ∙ none_input W.0 W.1 s.input_store s.is_slice q f)

      finalized : IsRepaired ComputeNow (is_affected D A) (removed_all D us) T.entities
      finalized =
          let W = plain_of_held S held in
          let after = plain_after W.0 W.1 in
          repaired D (sliced D U) (removed_all D us) (removed_all (sliced D U) us) R.entities T.entities A test
          (subst (λ vs. IsRepaired ComputeNow (is_affected (sliced D U) vs) (removed_all (sliced D U) us) R.entities)
          removed_same removes.ok).0
          (affected_alike D U A) alike none
          (united_in D R.entities test) (λ q f. united_out D R.entities test q f (none_after q f))
          (λ q f. leaves_same D (removed_all D us) A q (old q f))
          (graph (deleted W.0 us)) (ancestry_plain (deleted W.0 us) T after) after.acyclic

      untouched : StaysUnaffected A D T.entities
      untouched q un = elim (passes_or_not (test q)) [
        | inl t ↦ united_in D R.entities test q t
            ∙ (subst (λ vs. StaysUnaffected vs (sliced D U) R.entities) removed_same removes.untouched) q
            (affected_alike D U A q t ∙ un)
            ∙ get_same D U q t
        | inr f ↦ united_out D R.entities test q f (none_after q f)
      ]

      -- The difference of the part and the edited part is a difference that removing from the store can make.
      pub remove_change : R.partial ≡ N.partial → (d : DiffView) → IsDiff N R d
          → WouldChange S (IsRemoveResult ComputeNow S us) (Ok d)
      remove_change mode d is = (
        T,
        record {
          partial = refl;
          removes = record { ok = finalized; untouched = untouched; err = tt; named = tt };
          plain = λ W p. record { ok = plain_after W p; err = tt };
        },
        diff_of_part S T N R test
            (λ q t. ap (λ M. finmap.get M q) part.entities ∙ get_same D U q t)
            (united_in D R.entities test)
            (λ q f. ap (λ M. finmap.get M q) part.entities ∙ get_none D U q f)
            none_after (λ q f. united_out D R.entities test q f (none_after q f)) refl mode d is,
      )
