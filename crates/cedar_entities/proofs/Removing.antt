-- Removals from any store and from the plain store of an input store.
use Rattle.std.specs.Prelude.{◌≡◌, Bool, true, false, cond, not, ◌&&◌, ◌||◌, List, Option, Some, None}
use Rattle.std.proofs.Common.{ap, sym, refl, ◌∙◌}
use Rattle.std.proofs.lemmas.Bool.{and_parts, both_ways, false_from_ne_true}
use Rattle.std.proofs.lemmas.Map.Made.{is_member-filter}
use Rattle.std.specs.Option.{option_map}
use Rattle.std.specs.List.{list_any}
use Rattle.std.specs.Set.{is_member}
use Rattle.std.specs.FinSet as set
use Rattle.std.specs.FinMap as finmap
use Rattle.cedar_graph.specs.Graph.{Reach}
use Rattle.cedar_graph.specs.laws.Reaches.{reach_trans}
use Rattle.cedar_graph.specs.declared.err.TcError.{TcError}
use Rattle.cedar_graph.specs.declared.err.TcError.TheVariants as tc
use Rattle.cedar_ids.specs.UidOf.{same_uid}
use Rattle.cedar_ids.specs.laws.UidOfLaws.{same_uid_decides, same_uid_equiv}
use Rattle.cedar_ids.specs.declared.entity.EntityUID.{EntityUID}
use Rattle.cedar_entity.specs.View.{EntityView, has_ancestor}
use Rattle.cedar_entity.specs.declared.err.EntitiesError.{EntitiesError}
use Rattle.cedar_entity.specs.declared.err.EntitiesError.TheVariants as errors
use Rattle.cedar_entity_maps.specs.Edits.{is_stale, is_removed_by, without_removed_parents, removed_all}
use Rattle.cedar_entity_maps.specs.Modes.{ancestry, with_repair, IsSound, ReportsCycle, ReportsUnsound}
use Rattle.cedar_entity_maps.specs.Plain.{StoreView, EntityMap, IsPlainStore, parts_of, keyed}
use Rattle.cedar_entity_maps.specs.EditErrors.{MatchError}
use Rattle.cedar_entity_maps.specs.laws.EditErrors.{refusal_cases}
use Rattle.cedar_entity_maps.specs.Affected.{is_affected, removed_from, IsEnded, IsEndError, IsRepairOf}
use Rattle.cedar_entity_maps.specs.InputStore.{InputStore, graph, is_removed, without, deleted}
use Rattle.cedar_entity_maps.specs.declared.modes.EditRules.{EditRules}
use Rattle.cedar_entity_maps.specs.laws.Edits.{IsEdit, remains}
use Rattle.cedar_entity_maps.specs.laws.InputStores.{get_reduced, get_deleted}
use Rattle.cedar_entities.proofs.PlainEdits.{edit_plain, held_alike, no_loop, IsPlainEdit}
use Rattle.cedar_entity_maps.specs.laws.AnyOf.{any_filter}
use Rattle.cedar_entity_maps.specs.laws.PlainAncestors.{ancestry_plain}
use Rattle.cedar_entities.proofs.Ending.{ended_made, never_refused}

-- The members of the list of removed uids.
pub removed_members : (D : EntityMap) (U : List EntityUID) (q : EntityUID)
    → is_member same_uid (removed_from D U) q ≡ is_removed_by D U q
removed_members D U q =
    is_member-filter same_uid_equiv (finmap.contains_key D) q
    (λ x t. ap (finmap.contains_key D) ((same_uid_decides q x).0 t)) U

absorbed : (k x y : Bool) → (k && ((k && x) && y)) ≡ ((k && x) && y)
absorbed true x y = refl
absorbed false x y = refl

-- The stale ancestors of the listed uids are the stale ancestors of the removed uids.
remains_left : (D : EntityMap) (U : List EntityUID)
    → remains D (is_removed_by D U) U ≡ remains D (is_removed_by D U) (removed_from D U)
remains_left D U = λ i e. without_removed_parents (is_removed_by D U) (record e {
  indirect = set.retain e.indirect (λ w. not ((sym (any_filter (finmap.contains_key D) (is_stale D e w) U
      ∙ ap (λ f. list_any f U)
      (λ j u. absorbed (finmap.contains_key D u) (has_ancestor e u) (same_uid u w || ancestry D u w) j))) i));
})

out_at : {X Y : Type 0} (f g : X → Y) (d : Bool) (o : Option X) → f ≡ g
    → option_map f (cond (not d) o None) ≡ cond d None (option_map g o)
out_at f g true o is = refl
out_at f g false o is = ap (λ h. option_map h o) is

-- A removal is an edit that inserts nothing.
pub out_edit : (D : EntityMap) (U : List EntityUID) → IsEdit D (removed_all D U) (is_removed_by D U) (λ _. None) (removed_from D U)
out_edit D U = record {
  applied = removed_members D U;
  made = λ q. get_reduced (remains D (is_removed_by D U) U) D (is_removed_by D U) q
      ∙ out_at (remains D (is_removed_by D U) U) (remains D (is_removed_by D U) (removed_from D U)) (is_removed_by D U q) (finmap.get D q)
      (remains_left D U);
}

without_parts : (D : EntityMap) (removed : EntityUID → Bool) (A : List EntityUID) (q : EntityUID) (g : Bool)
    (o : Option EntityView) → option_map parts_of (cond g None (option_map (remains D removed A) o))
    ≡ option_map (λ p. (without removed (q, p)).1) (cond (not g) (option_map parts_of o) None)
without_parts D removed A q true o = refl
without_parts D removed A q false None = refl
without_parts D removed A q false (Some e) = refl

-- A plain store is sound.
pub plain_sound : (W : InputStore) (S : StoreView) → IsPlainStore W S → IsSound S.entities
plain_sound W S plain = (
  λ a b c h k. (ancestry_plain W S plain a c).1
      (reach_trans (graph W) a b c ((ancestry_plain W S plain a b).0 h) ((ancestry_plain W S plain b c).0 k)),
  λ v. false_from_ne_true (ancestry S.entities v v) (λ t. plain.acyclic v ((ancestry_plain W S plain v v).0 t)),
)

-- A sound store passes the check.
sound_passes : (D : EntityMap) → IsSound D → (t : TcError EntityUID) → ReportsUnsound D t → ⊥
sound_passes D s (tc.MissingTcEdge x) h =
    both_ways (ancestry D x.child x.grandparent) h.2 (s.0 x.child x.parent x.grandparent h.0 h.1)
sound_passes D s (tc.HasCycle x) h = both_ways (ancestry D x.vertex x.vertex) (s.1 x.vertex) h.1
sound_passes D s tc.Memory h = h

module _ (W : InputStore) (S : StoreView) (U : List EntityUID) (plain : IsPlainStore W S) where
  same_going : is_removed_by S.entities U ≡ is_removed W U
  same_going = λ i q. is_member same_uid U q && held_alike W S plain q i

  removing : IsPlainEdit W (deleted W U) S (removed_all S.entities U) (is_removed_by S.entities U) (λ _. None) (removed_from S.entities U)
  removing = record {
    plain = plain;
    made = out_edit S.entities U;
    there = λ q t. (and_parts (is_member same_uid U q) (finmap.contains_key S.entities q) t).1;
    bare = λ q. tt;
    keyed = λ q. tt;
    holds = λ q. ap (option_map parts_of) ((out_edit S.entities U).made q)
        ∙ without_parts S.entities (is_removed_by S.entities U) (removed_from S.entities U) q (is_removed_by S.entities U q) (finmap.get S.entities q)
        ∙ (λ i. option_map (λ p. (without (same_going i) (q, p)).1)
        (cond (not (same_going i q)) (plain.holds q i) None))
        ∙ sym (get_deleted W U q);
  }

  none_loops : (v : EntityUID) → Reach (ancestry (removed_all S.entities U)) v v → ⊥
  none_loops = no_loop plain (out_edit S.entities U) removing.there (λ _. refl)

  -- The repair results in the plain store of the input store after the removal.
  left_plain : (N : StoreView) → N.partial ≡ S.partial
      → IsRepairOf (is_affected S.entities (removed_from S.entities U)) (removed_all S.entities U) N.entities
      → IsPlainStore (deleted W U) N
  left_plain N same r = edit_plain removing N (same ∙ plain.partial) r (λ _ v _ p. none_loops v p)

  pub mended_plain : (row : EditRules) (N : StoreView) → N.partial ≡ S.partial
      → IsEnded (with_repair row) (is_affected S.entities (removed_from S.entities U)) (removed_all S.entities U) N.entities
      → IsPlainStore (deleted W U) N
  mended_plain row N same s = left_plain N same
      (ended_made (with_repair row) (is_affected S.entities (removed_from S.entities U)) (removed_all S.entities U) N.entities s)

  no_cycle : (t : TcError EntityUID) → ReportsCycle (removed_all S.entities U) t → ⊥
  no_cycle (tc.MissingTcEdge x) h = h
  no_cycle (tc.HasCycle x) h = none_loops x.vertex h
  no_cycle tc.Memory h = h

  not_refused : (row : EditRules) (t : TcError EntityUID)
      → IsEndError (with_repair row) (is_affected S.entities (removed_from S.entities U)) (removed_all S.entities U) t → ⊥
  not_refused row t = never_refused row (is_affected S.entities (removed_from S.entities U)) (removed_all S.entities U) t (no_cycle t)
      (λ N r h. sound_passes N (plain_sound (deleted W U) (record { entities = N; partial = S.partial; known_plain = true })
      (left_plain (record { entities = N; partial = S.partial; known_plain = true }) refl r)) t h)

  pub left_refused : (row : EditRules) (e : EntitiesError)
      → MatchError e (λ _. ⊥)
      (IsEndError (with_repair row) (is_affected S.entities (removed_from S.entities U)) (removed_all S.entities U))
      → e ≡ errors.Memory
  left_refused row e h =
      refusal_cases (λ _. ⊥)
      (IsEndError (with_repair row) (is_affected S.entities (removed_from S.entities U)) (removed_all S.entities U))
      (λ r. r ≡ errors.Memory) (λ u n. absurd n)
      (λ t k. absurd (not_refused row t k)) refl e h
