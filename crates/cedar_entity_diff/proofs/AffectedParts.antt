-- Overwriting a plain store, at the uids that it does not affect.
use Rattle.std.specs.Prelude.{◌≡◌, ◌↔◌, Bool, true, false, cond, ◌&&◌, ◌||◌, List, [], ◌∷◌, ◌++◌, map, Option, Some, None}
use Rattle.std.proofs.Common.{ap, sym, refl, ◌∙◌}
use Rattle.std.proofs.lemmas.Bool.{and_parts, or_parts}
use Rattle.std.specs.List.{list_any}
use Rattle.std.specs.Option.{option_map, option_or}
use Rattle.std.specs.Set.{is_member}
use Rattle.std.specs.FinMap as finmap
use Rattle.cedar_graph.specs.Graph.{Reach}
use Rattle.cedar_ids.specs.UidOf.{same_uid, uid_order}
use Rattle.cedar_ids.specs.laws.UidOfLaws.{uid_order_ties}
use Rattle.cedar_ids.specs.declared.entity.EntityUID.{EntityUID}
use Rattle.cedar_entity.specs.View.{EntityView, has_ancestor}
use Rattle.cedar_entity_maps.specs.Affected.{is_affected}
use Rattle.cedar_entity_maps.specs.Edits.{overwrite, uids_of, without_stale}
use Rattle.cedar_entity_maps.specs.InputStore.{InputStore, Parts, entry_of, graph, is_parent_in, overwritten, reversed}
use Rattle.cedar_entity_maps.specs.Modes.{ancestry, is_ancestor_in}
use Rattle.cedar_entity_maps.specs.Plain.{EntityMap, StoreView, IsPlainStore, input_of, parts_of}
use Rattle.cedar_entity_maps.specs.laws.AnyOf.{any_less}
use Rattle.cedar_entity_maps.specs.laws.InputStores.{find-append, get_overwritten}
use Rattle.cedar_slice.specs.Slices.{is_wanted}
use Rattle.cedar_dry_run.specs.laws.HeldTrials.{over_old}
use Rattle.cedar_dry_run.specs.laws.Requested.{IsPartFor}
use Rattle.cedar_entity_diff.specs.laws.Parts.{HasAffected}
use Rattle.cedar_entity_diff.proofs.KeptReach.{ChangesOnly, reach_kept}
use Rattle.cedar_entity_diff.proofs.Repaired.{Leaves, leaves_same}
use Rattle.cedar_entity_diff.proofs.Slicing.{not_stale, unaffected}

no_last : (L : List EntityView) (a : EntityUID) → is_member same_uid (uids_of L) a ≡ false
    → finmap.find uid_order a (reversed (map entry_of (map input_of L))) ≡ None
no_last [] a h = refl
no_last (e ∷ L) a h =
    let p = or_parts (same_uid a e.uid) (is_member same_uid (uids_of L) a) h in
    find-append (reversed (map entry_of (map input_of L))) (entry_of (input_of e) ∷ []) a
    ∙ ap (λ o. option_or o (finmap.find uid_order a (entry_of (input_of e) ∷ []))) (no_last L a p.1)
    ∙ ap (λ b. cond b (Some (parts_of e)) None) (sym (uid_order_ties a e.uid) ∙ p.0)

-- Overwriting changes only the edges of the overwritten uids.
overwrites_only : (W : InputStore) (L : List EntityView)
    → ChangesOnly (graph W) (graph (overwritten W (map input_of L))) (uids_of L)
overwrites_only W L a b h _ = ap (λ o. is_parent_in o b)
    (sym (get_overwritten W (map input_of L) a ∙ ap (λ o. option_or o (finmap.get W.entities a)) (no_last L a h)))

-- An entity that has no overwritten uid as an ancestor has no stale ancestors.
pub keeps_all : (D : EntityMap) (A : List EntityUID) (o : Option EntityView) → list_any (λ u. is_ancestor_in o u) A ≡ false
    → option_map (without_stale D A) o ≡ o
keeps_all D A None h = refl
keeps_all D A (Some e) h = ap Some (not_stale D A e
    (any_less (λ u. finmap.contains_key D u && has_ancestor e u) (has_ancestor e)
    (λ u t. (and_parts (finmap.contains_key D u) (has_ancestor e u) t).1) A h))

module _ (S : StoreView) (L : List EntityView) (N : StoreView) (part : IsPartFor S L N)
    (affected : HasAffected S.entities (uids_of L) part.uids) where
  abbrev D : EntityMap
  D = S.entities

  abbrev U : List EntityUID
  U = part.uids

  -- The entities that are not selected do not change.
  pub leaves_unaffected : (q : EntityUID) → is_wanted D U q ≡ false → Leaves D (overwrite D L) (uids_of L) q
  leaves_unaffected q f = leaves_same D (overwrite D L) (uids_of L) q
      (over_old D U L part.asked q f
      ∙ keeps_all D (uids_of L) (finmap.get D q)
      (or_parts (is_member same_uid (uids_of L) q) (list_any (ancestry D q) (uids_of L))
      (unaffected D U (uids_of L) affected q f)).1)

  -- They reach the same uids as before.
  pub reach_unaffected : (W : InputStore) → IsPlainStore W S → (q x : EntityUID) → is_wanted D U q ≡ false
      → Reach (graph (overwritten W (map input_of L))) q x ↔ Reach (graph W) q x
  reach_unaffected W p q x f = reach_kept W (overwritten W (map input_of L)) S p (uids_of L) (overwrites_only W L) q x
      (unaffected D U (uids_of L) affected q f)
