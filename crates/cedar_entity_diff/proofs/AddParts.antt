-- What adding a list to a part of a plain store changes.
use Rattle.std.specs.Prelude.{◌≡◌, Bool, true, false, cond, not, ◌&&◌, List, [], ◌∷◌, map, Option, Some, None, Result, Ok, Err}
use Rattle.std.proofs.Common.{ap, sym, refl, subst, ◌∙◌, inl, inr}
use Rattle.std.proofs.Math.Bool.{and-true}
use Rattle.std.proofs.lemmas.Bool.{false≢true, or_parts}
use Rattle.std.specs.Option.{is_some, option_map, option_or}
use Rattle.std.specs.Set.{is_member}
use Rattle.std.specs.FinMap as finmap
use Rattle.cedar_ids.specs.UidOf.{same_uid, uid_order}
use Rattle.cedar_ids.specs.laws.UidOfLaws.{uid_order_ties}
use Rattle.cedar_ids.specs.declared.entity.EntityUID.{EntityUID}
use Rattle.cedar_entity.specs.View.{EntityView}
use Rattle.cedar_entity.specs.declared.err.EntitiesError.{EntitiesError}
use Rattle.cedar_entities.specs.Changes.{AddsEntities, AddsPlain}
use Rattle.cedar_entities.specs.Present.{with_first}
use Rattle.cedar_entity_maps.specs.Affected.{inserted_in, is_affected, IsFinalized, StaysUnaffected}
use Rattle.cedar_entity_maps.specs.Edits.{uids_of}
use Rattle.cedar_entity_maps.specs.InputStore.{InputStore, Parts, added, entry_of, first, graph, is_parent_in}
use Rattle.cedar_entity_maps.specs.Plain.{EntityMap, StoreView, IsPlainStore, HaveNoIndirect, input_of, parts_of}
use Rattle.cedar_entity_maps.specs.declared.modes.TCComputation.TheVariants.{ComputeNow}
use Rattle.cedar_entity_maps.specs.laws.Indexes.{IsPlainHeld}
use Rattle.cedar_entity_maps.specs.laws.InputStores.{get_added}
use Rattle.cedar_entity_maps.specs.laws.PlainAncestors.{ancestry_plain}
use Rattle.cedar_slice.specs.Slices.{is_wanted, sliced}
use Rattle.cedar_dry_run.specs.laws.HeldTrials.{all_match, first_alike, first_none, first_old, get_none, get_same, same_inserted}
use Rattle.cedar_dry_run.specs.laws.Parts.{passes_or_not}
use Rattle.cedar_dry_run.specs.laws.PlainTrials.{next_added, none_added, old_added, same_added}
use Rattle.cedar_dry_run.specs.laws.Tried.{adding_refused, adding_tried, covered}
use Rattle.cedar_entity_diff.specs.Diffs.{DiffView, IsDiff}
use Rattle.cedar_entity_diff.specs.WouldChange.{IsAddResult, WouldChange}
use Rattle.cedar_entity_diff.specs.laws.Parts.{IsEditPart}
use Rattle.cedar_entity_diff.proofs.KeptReach.{ChangesOnly, reach_kept}
use Rattle.cedar_entity_diff.proofs.PartDiffs.{diff_of_part}
use Rattle.cedar_entity_diff.proofs.Repaired.{leaves_same, repaired}
use Rattle.cedar_entity_diff.proofs.Slicing.{affected_alike, by_wanted, member_filter, plain_of_held, unaffected}
use Rattle.cedar_entity_diff.proofs.United.{none_of, united, united_in, united_out, united_plain}

no_first : (L : List EntityView) (a : EntityUID) → is_member same_uid (uids_of L) a ≡ false
    → first (map input_of L) a ≡ None
no_first [] a h = refl
no_first (e ∷ L) a h =
    let p = or_parts (same_uid a e.uid) (is_member same_uid (uids_of L) a) h in
    ap (λ b. cond b (Some (parts_of e)) (first (map input_of L) a)) (sym (uid_order_ties a e.uid) ∙ p.0)
    ∙ no_first L a p.1

-- An addition changes only the edges of the inserted uids.
module _ (W : InputStore) (S : StoreView) (plain : IsPlainStore W S) (L : List EntityView) where
  stays_at : (a : EntityUID) (o : Option EntityView) → finmap.get S.entities a ≡ o
      → is_member same_uid (inserted_in S.entities L) a ≡ false
      → option_or (option_map parts_of o) (first (map input_of L) a) ≡ option_map parts_of o
  stays_at a (Some e) is h = refl
  stays_at a None is h = no_first L a
      (sym (and-true (is_member same_uid (uids_of L) a))
      ∙ ap (λ o. is_member same_uid (uids_of L) a && not (is_some o)) (sym is)
      ∙ sym (member_filter (λ u. not (finmap.contains_key S.entities u)) (uids_of L) a) ∙ h)

  pub adds_only : ChangesOnly (graph W) (graph (added W (map input_of L))) (inserted_in S.entities L)
  adds_only a b h _ = ap (λ o. is_parent_in o b) (sym (
      get_added W (map input_of L) a
      ∙ ap (λ o. option_or o (first (map input_of L) a)) (sym (plain.holds a))
      ∙ stays_at a (finmap.get S.entities a) refl h ∙ plain.holds a))

module _ (S : StoreView) (L : List EntityView) (N : StoreView)
    (part : IsEditPart S (inserted_in S.entities L) L N) (bare : HaveNoIndirect L) where
  abbrev D : EntityMap
  D = S.entities

  abbrev U : List EntityUID
  U = part.part.uids

  abbrev A : List EntityUID
  A = inserted_in D L

  abbrev test : EntityUID → Bool
  test = is_wanted D U

  -- An error of adding to the part is an error of adding to the store.
  pub add_error : (e : EntitiesError) → AddsEntities {A = StoreView} ComputeNow N.entities L (Err e) (λ s. s.entities)
      → ((V : InputStore) → IsPlainStore V N → HaveNoIndirect L → AddsPlain ComputeNow V (map input_of L) (Err e))
      → IsAddResult ComputeNow S L (Err e)
  add_error e adds plain = record {
    partial = tt;
    adds = adding_refused S L N part.part L refl e adds;
    plain = λ W p b. record {
      agree = tt;
      ok = tt;
      err = adding_tried S L N part.part L refl (Err e) plain W p b;
    };
  }

  module _ (R : StoreView) (adds_part : AddsEntities ComputeNow N.entities L (Ok R) (λ (s : StoreView). s.entities))
      (plain : (V : InputStore) → IsPlainStore V N → HaveNoIndirect L → AddsPlain ComputeNow V (map input_of L) (Ok R)) where
    abbrev T : StoreView
    T = record S { entities = united D R.entities test }

    abbrev adds : AddsEntities ComputeNow (sliced D U) L (Ok R) (λ (s : StoreView). s.entities)
    adds = subst (λ M. AddsEntities ComputeNow M L (Ok R) (λ (s : StoreView). s.entities)) part.part.entities adds_part

    plain_after : (W : InputStore) → IsPlainStore W S → IsPlainStore (added W (map input_of L)) T
    plain_after W p =
        let LL = map input_of L in
        let s = part.part.plain W p in
        let V = s.input_store in
        let slice = by_wanted W S p U V s.is_slice in
        let all = covered W V U slice L part.part.asked in
        united_plain W (added W LL) S p (added V LL) R (plain V s.is_plain bare).ok test
        (same_added W V U slice LL all) (none_added W V U slice LL all) (old_added W V U slice LL all)
        (next_added W V U slice LL all)
        (λ q x f. reach_kept W (added W LL) S p A (adds_only W S p L) q x (unaffected D U A part.affected q f)) refl

    module _ (held : IsPlainHeld D) where
      none_after : (q : EntityUID) → test q ≡ false → finmap.get R.entities q ≡ None
      none_after q f =
          let W = plain_of_held S held in
          let s = part.part.plain W.0 W.1 in
          let slice = by_wanted W.0 S W.1 U s.input_store s.is_slice in
          none_of parts_of (finmap.get R.entities q)
          ((plain s.input_store s.is_plain bare).ok.holds q
          ∙ none_added W.0 s.input_store U slice (map input_of L)
          (covered W.0 s.input_store U slice L part.part.asked) q f)

      finalized : IsFinalized ComputeNow (is_affected D A) (with_first D L) T.entities
      finalized =
          let W = plain_of_held S held in
          let after = plain_after W.0 W.1 in
          repaired D (sliced D U) (with_first D L) (with_first (sliced D U) L) R.entities T.entities A test
          (subst (λ us. IsFinalized ComputeNow (is_affected (sliced D U) us) (with_first (sliced D U) L) R.entities)
          (same_inserted D U L part.part.asked) adds.ok).0
          (affected_alike D U A) (first_alike D U L part.part.asked) (first_none D U L part.part.asked)
          (united_in D R.entities test) (λ q f. united_out D R.entities test q f (none_after q f))
          (λ q f. leaves_same D (with_first D L) A q (first_old D U L part.part.asked q f))
          (graph (added W.0 (map input_of L))) (ancestry_plain (added W.0 (map input_of L)) T after) after.acyclic

      untouched : StaysUnaffected A D T.entities
      untouched q un = elim (passes_or_not (test q)) [
        | inl t ↦ united_in D R.entities test q t
            ∙ (subst (λ us. StaysUnaffected us (sliced D U) R.entities) (same_inserted D U L part.part.asked)
            adds.untouched) q (affected_alike D U A q t ∙ un)
            ∙ get_same D U q t
        | inr f ↦ united_out D R.entities test q f (none_after q f)
      ]

      -- The difference of the part and the edited part is a difference that adding to the store can make.
      pub add_change : R.partial ≡ N.partial → (d : DiffView) → IsDiff N R d
          → WouldChange S (IsAddResult ComputeNow S L) (Ok d)
      add_change mode d is = (
        T,
        record {
          partial = refl;
          adds = record {
            agree = all_match D U L part.part.asked L part.part.asked adds.agree;
            ok = finalized;
            untouched = untouched;
            err = tt;
            named = tt;
          };
          plain = λ W p b. record {
            agree = (adding_tried S L N part.part L refl (Ok R) plain W p b).0;
            ok = plain_after W p;
            err = tt;
          };
        },
        diff_of_part S T N R test
            (λ q t. ap (λ M. finmap.get M q) part.part.entities ∙ get_same D U q t)
            (united_in D R.entities test)
            (λ q f. ap (λ M. finmap.get M q) part.part.entities ∙ get_none D U q f)
            none_after (λ q f. united_out D R.entities test q f (none_after q f)) refl mode d is,
      )
