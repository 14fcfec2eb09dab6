-- What overwriting a part of a plain store with a list changes.
use Rattle.std.specs.Prelude.{◌≡◌, ◌↔◌, Bool, true, false, ◌&&◌, List, map, Option, None, Result, Ok, Err}
use Rattle.std.proofs.Common.{ap, sym, refl, subst, ◌∙◌, inl, inr}
use Rattle.std.specs.Set.{is_member}
use Rattle.std.specs.FinMap as finmap
use Rattle.cedar_graph.specs.Graph.{Reach}
use Rattle.cedar_ids.specs.declared.entity.EntityUID.{EntityUID}
use Rattle.cedar_entity.specs.View.{EntityView}
use Rattle.cedar_entity.specs.declared.err.EntitiesError.{EntitiesError}
use Rattle.cedar_entities.specs.Changes.{UpsertsEntities, UpsertsPlain}
use Rattle.cedar_entity_maps.specs.Affected.{is_affected, IsFinalized, StaysUnaffected}
use Rattle.cedar_entity_maps.specs.Edits.{overwrite, uids_of}
use Rattle.cedar_entity_maps.specs.InputStore.{InputStore, graph, overwritten}
use Rattle.cedar_entity_maps.specs.Plain.{EntityMap, StoreView, IsPlainStore, HaveNoIndirect, input_of, parts_of}
use Rattle.cedar_entity_maps.specs.declared.modes.TCComputation.TheVariants.{ComputeNow}
use Rattle.cedar_entity_maps.specs.laws.Indexes.{IsPlainHeld}
use Rattle.cedar_entity_maps.specs.laws.PlainAncestors.{ancestry_plain}
use Rattle.cedar_slice.specs.Slices.{is_wanted, sliced}
use Rattle.cedar_dry_run.specs.laws.HeldTrials.{get_none, get_same, over_alike, over_none}
use Rattle.cedar_dry_run.specs.laws.Parts.{passes_or_not}
use Rattle.cedar_dry_run.specs.laws.PlainTrials.{next_over, none_over, old_over, same_over}
use Rattle.cedar_dry_run.specs.laws.Requested.{IsPartFor}
use Rattle.cedar_dry_run.specs.laws.Tried.{covered, putting_refused, putting_tried}
use Rattle.cedar_entity_diff.specs.Diffs.{DiffView, IsDiff}
use Rattle.cedar_entity_diff.specs.WouldChange.{IsUpsertResult, WouldChange}
use Rattle.cedar_entity_diff.proofs.PartDiffs.{diff_of_part}
use Rattle.cedar_entity_diff.proofs.Repaired.{Leaves, repaired}
use Rattle.cedar_entity_diff.proofs.Slicing.{affected_alike, by_wanted, plain_of_held}
use Rattle.cedar_entity_diff.proofs.United.{none_of, united, united_in, united_out, united_plain}

module _ (S : StoreView) (L : List EntityView) (N : StoreView) (part : IsPartFor S L N) (bare : HaveNoIndirect L) where
  abbrev D : EntityMap
  D = S.entities

  abbrev U : List EntityUID
  U = part.uids

  abbrev A : List EntityUID
  A = uids_of L

  abbrev test : EntityUID → Bool
  test = is_wanted D U

  -- An error of overwriting the part is an error of overwriting the store.
  pub upsert_error : (e : EntitiesError) → UpsertsEntities ComputeNow N.entities L (Err e)
      → ((V : InputStore) → IsPlainStore V N → HaveNoIndirect L → UpsertsPlain ComputeNow V (map input_of L) (Err e))
      → IsUpsertResult ComputeNow S L (Err e)
  upsert_error e upserts plain = record {
    partial = tt;
    upserts = putting_refused S L N part L refl e upserts;
    strips = λ W p. tt;
    plain = λ W p b. record { ok = tt; err = putting_tried S L N part L refl (Err e) plain W p b };
  }

  -- At the uids that are not selected, the entities are their own repairs, and reach the same uids as before.
  module _ (leaves : (q : EntityUID) → test q ≡ false → Leaves D (overwrite D L) A q)
      (reach : (W : InputStore) → IsPlainStore W S → (q x : EntityUID) → test q ≡ false
      → Reach (graph (overwritten W (map input_of L))) q x ↔ Reach (graph W) q x)
      (R : StoreView) (upserts_part : UpsertsEntities ComputeNow N.entities L (Ok R))
      (plain : (V : InputStore) → IsPlainStore V N → HaveNoIndirect L
      → UpsertsPlain ComputeNow V (map input_of L) (Ok R)) where
    abbrev T : StoreView
    T = record S { entities = united D R.entities test }

    abbrev upserts : UpsertsEntities ComputeNow (sliced D U) L (Ok R)
    upserts = subst (λ M. UpsertsEntities ComputeNow M L (Ok R)) part.entities upserts_part

    plain_after : (W : InputStore) → IsPlainStore W S → IsPlainStore (overwritten W (map input_of L)) T
    plain_after W p =
        let LL = map input_of L in
        let s = part.plain W p in
        let V = s.input_store in
        let slice = by_wanted W S p U V s.is_slice in
        let all = covered W V U slice L part.asked in
        united_plain W (overwritten W LL) S p (overwritten V LL) R (plain V s.is_plain bare).ok test
        (same_over W V U slice LL all) (none_over W V U slice LL all) (old_over W V U slice LL all)
        (next_over W V U slice LL all) (reach W p) refl

    module _ (held : IsPlainHeld D) where
      none_after : (q : EntityUID) → test q ≡ false → finmap.get R.entities q ≡ None
      none_after q f =
          let W = plain_of_held S held in
          let s = part.plain W.0 W.1 in
          let slice = by_wanted W.0 S W.1 U s.input_store s.is_slice in
          none_of parts_of (finmap.get R.entities q)
          ((plain s.input_store s.is_plain bare).ok.holds q
          ∙ none_over W.0 s.input_store U slice (map input_of L) (covered W.0 s.input_store U slice L part.asked) q f)

      finalized : IsFinalized ComputeNow (is_affected D A) (overwrite D L) T.entities
      finalized =
          let W = plain_of_held S held in
          let after = plain_after W.0 W.1 in
          repaired D (sliced D U) (overwrite D L) (overwrite (sliced D U) L) R.entities T.entities A test
          upserts.ok.0 (affected_alike D U A) (over_alike D U L part.asked) (over_none D U L part.asked)
          (united_in D R.entities test) (λ q f. united_out D R.entities test q f (none_after q f)) leaves
          (graph (overwritten W.0 (map input_of L))) (ancestry_plain (overwritten W.0 (map input_of L)) T after)
          after.acyclic

      untouched : StaysUnaffected A D T.entities
      untouched q un = elim (passes_or_not (test q)) [
        | inl t ↦ united_in D R.entities test q t ∙ upserts.untouched q (affected_alike D U A q t ∙ un)
            ∙ get_same D U q t
        | inr f ↦ united_out D R.entities test q f (none_after q f)
      ]

      -- The difference of the part and the edited part is a difference that overwriting the store can make.
      pub upsert_change : R.partial ≡ N.partial → (d : DiffView) → IsDiff N R d
          → WouldChange S (IsUpsertResult ComputeNow S L) (Ok d)
      upsert_change mode d is = (
        T,
        record {
          partial = refl;
          upserts = record { ok = finalized; untouched = untouched; err = tt; named = tt };
          strips = λ W p. tt;
          plain = λ W p b. record { ok = plain_after W p; err = tt };
        },
        diff_of_part S T N R test
            (λ q t. ap (λ M. finmap.get M q) part.entities ∙ get_same D U q t)
            (united_in D R.entities test)
            (λ q f. ap (λ M. finmap.get M q) part.entities ∙ get_none D U q f)
            none_after (λ q f. united_out D R.entities test q f (none_after q f)) refl mode d is,
      )
