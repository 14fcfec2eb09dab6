-- Overwriting a plain store with entities that have the same parents, at the uids that are not overwritten.
use Rattle.std.specs.Prelude.{◌≡◌, ◌↔◌, Bool, true, false, not, ◌&&◌, ◌||◌, List, [], ◌∷◌, ◌++◌, map, Option, Some, None}
use Rattle.std.proofs.Common.{ap, sym, refl, ◌∙◌, inl, inr}
use Rattle.std.proofs.lemmas.Bool.{and_parts, or_cases, or_left, or_parts, or_right}
use Rattle.std.specs.List.{list_any}
use Rattle.std.specs.Option.{IfSome, option_map, option_or}
use Rattle.std.specs.Set.{is_member}
use Rattle.std.specs.FinSet as set
use Rattle.std.specs.FinMap as finmap
use Rattle.cedar_graph.specs.Graph.{Reach}
use Rattle.cedar_graph.specs.laws.Reaches.{reach_edge, reach_over_reach}
use Rattle.cedar_ids.specs.UidOf.{same_uid, uid_order}
use Rattle.cedar_ids.specs.laws.UidOfLaws.{uid_order_total}
use Rattle.cedar_ids.specs.declared.entity.EntityUID.{EntityUID}
use Rattle.cedar_uid_sets.specs.laws.Sets.{same_members}
use Rattle.cedar_entity.specs.View.{EntityView, has_ancestor, overlap, rest, unchanged_parts}
use Rattle.cedar_entity.specs.laws.UidSets.{kept_in}
use Rattle.cedar_entity_maps.specs.Affected.{is_affected}
use Rattle.cedar_entity_maps.specs.Edits.{is_stale, overwrite, uids_of, without_stale}
use Rattle.cedar_entity_maps.specs.InputStore.{InputStore, Parts, entry_of, graph, is_parent_in, overwritten, reversed}
use Rattle.cedar_entity_maps.specs.Modes.{ancestry, is_ancestor_in}
use Rattle.cedar_entity_maps.specs.Plain.{EntityMap, StoreView, IsPlainStore, HasDisjointParents, input_of, keyed, parts_of}
use Rattle.cedar_entity_maps.specs.laws.Edits.{last_entity}
use Rattle.cedar_entity_maps.specs.laws.InputStores.{find-mapped, get_overwritten}
use Rattle.cedar_entity_maps.specs.laws.Lists.{map_append_one}
use Rattle.cedar_entity_maps.specs.laws.PlainAncestors.{ancestry_plain}
use Rattle.cedar_slice.specs.Slices.{is_wanted}
use Rattle.cedar_dry_run.specs.laws.Found.{all_along, all_mapped, all_reversed, find_holds}
use Rattle.cedar_dry_run.specs.laws.HeldTrials.{get_put_over, over_old}
use Rattle.cedar_dry_run.specs.laws.Requested.{IsPartFor}
use Rattle.cedar_entity_diff.specs.laws.Parts.{HasSameParents, HaveSameParents}
use Rattle.cedar_entity_diff.proofs.AffectedParts.{keeps_all}
use Rattle.cedar_entity_diff.proofs.Repaired.{Leaves}
use Rattle.cedar_entity_diff.proofs.United.{same_reach}

abbrev parts_entry : EntityUID × EntityView → EntityUID × Parts
parts_entry e = (e.0, parts_of e.1)

entries_alike : (L : List EntityView) → map entry_of (map input_of L) ≡ map parts_entry (map keyed L)
entries_alike [] = refl
entries_alike (e ∷ L) = ap (λ l. (e.uid, parts_of e) ∷ l) (entries_alike L)

mapped_reversed : {X Y : Type 0} (f : X → Y) (xs : List X) → map f (reversed xs) ≡ reversed (map f xs)
mapped_reversed f [] = refl
mapped_reversed f (x ∷ xs) = map_append_one f (reversed xs) x ∙ ap (λ l. l ++ f x ∷ []) (mapped_reversed f xs)

-- The parts of the last entity with a uid.
last_parts : (L : List EntityView) (a : EntityUID)
    → finmap.find uid_order a (reversed (map entry_of (map input_of L))) ≡ option_map parts_of (last_entity L a)
last_parts L a =
    ap (λ l. finmap.find uid_order a (reversed l)) (entries_alike L)
    ∙ ap (finmap.find uid_order a) (sym (mapped_reversed parts_entry (map keyed L)))
    ∙ find-mapped parts_of (reversed (map keyed L)) a

parts_either : (D : EntityMap) (A : List EntityUID) (o d : Option EntityView)
    → option_map parts_of (option_or o (option_map (without_stale D A) d))
    ≡ option_or (option_map parts_of o) (option_map parts_of d)
parts_either D A None None = refl
parts_either D A None (Some e) = refl
parts_either D A (Some e) d = refl

parent_is_ancestor : (o : Option EntityView) (b : EntityUID) → is_parent_in (option_map parts_of o) b ≡ true
    → is_ancestor_in o b ≡ true
parent_is_ancestor None b h = h
parent_is_ancestor (Some e) b h = or_left (set.contains e.parents b) (set.contains e.indirect b) h

parent_either : (o w : Option Parts) (g : EntityUID → Bool)
    → IfSome o (λ p. (b : EntityUID) → set.contains p.parents b ≡ g b)
    → ((b : EntityUID) → is_parent_in w b ≡ g b) → (b : EntityUID) → is_parent_in (option_or o w) b ≡ g b
parent_either None w g h k b = k b
parent_either (Some p) w g h k b = h b

disjoint : (p i s : Bool) → (p ≡ true → i ≡ false) → (p && i) ≡ (p && (i && not s))
disjoint true i s h = h refl ∙ sym (ap (λ b. b && not s) (h refl))
disjoint false i s h = refl

module _ (D : EntityMap) (A : List EntityUID) where
  same_overlap : (e : EntityView) → HasDisjointParents e → overlap e ≡ overlap (without_stale D A e)
  same_overlap e apart = same_members (overlap e) (overlap (without_stale D A e)) (λ x.
      let stale = list_any (is_stale D e x) A in
      set.contains-intersection uid_order_total e.parents e.indirect x
      ∙ disjoint (set.contains e.parents x) (set.contains e.indirect x) stale (apart x)
      ∙ ap (λ b. set.contains e.parents x && b) (sym (kept_in e.indirect (λ w. list_any (is_stale D e w) A) x))
      ∙ sym (set.contains-intersection uid_order_total e.parents (without_stale D A e).indirect x))

  same_parts : (o : Option EntityView) → IfSome o HasDisjointParents
      → option_map unchanged_parts o ≡ option_map unchanged_parts (option_map (without_stale D A) o)
  same_parts None h = refl
  same_parts (Some e) h = λ i. Some (e.uid, (rest e, same_overlap e h i))

  was_ancestor : (o : Option EntityView) (b : EntityUID) → is_ancestor_in (option_map (without_stale D A) o) b ≡ true
      → is_ancestor_in o b ≡ true
  was_ancestor None b h = h
  was_ancestor (Some e) b h =
      elim (or_cases (set.contains e.parents b) (set.contains (without_stale D A e).indirect b) h) [
        | inl t ↦ or_left (set.contains e.parents b) (set.contains e.indirect b) t
        | inr r ↦ or_right (set.contains e.parents b) (set.contains e.indirect b)
            (and_parts (set.contains e.indirect b) (not (list_any (is_stale D e b) A))
            (sym (kept_in e.indirect (λ w. list_any (is_stale D e w) A) b) ∙ r)).0
      ]

module _ (S : StoreView) (L : List EntityView) (N : StoreView) (part : IsPartFor S L N)
    (same : HaveSameParents S.entities L) (W : InputStore) (plain : IsPlainStore W S) where
  abbrev D : EntityMap
  D = S.entities

  abbrev Y : InputStore
  Y = overwritten W (map input_of L)

  has_parents : (e : EntityView) → HasSameParents D e → (b : EntityUID) → set.contains e.parents b ≡ graph W e.uid b
  has_parents e h b =
      ap (λ s. set.contains s b) h.parents
      ∙ ap (λ o. is_parent_in (option_map parts_of o) b) (sym h.found)
      ∙ ap (λ o. is_parent_in o b) (plain.holds e.uid)

  abbrev HasParentsOf : EntityUID → Parts → Type 0
  HasParentsOf u p = (b : EntityUID) → set.contains p.parents b ≡ graph W u b

  -- The parents do not change.
  same_graph : (a b : EntityUID) → graph Y a b ≡ graph W a b
  same_graph a b =
      ap (λ o. is_parent_in o b) (get_overwritten W (map input_of L) a)
      ∙ parent_either (finmap.find uid_order a (reversed (map entry_of (map input_of L)))) (finmap.get W.entities a)
      (graph W a)
      (find_holds HasParentsOf (reversed (map entry_of (map input_of L))) a
      (all_reversed (λ e. HasParentsOf e.0 e.1) (map entry_of (map input_of L))
      (all_mapped entry_of (λ e. HasParentsOf e.0 e.1) (map input_of L)
      (all_mapped input_of (λ g. HasParentsOf g.uid g.parts) L
      (all_along (HasSameParents D) (λ e. HasParentsOf e.uid (parts_of e)) has_parents L same)))))
      (λ _. refl) b

  edges_stay : (a b : EntityUID) → graph Y a b ≡ true → ancestry (overwrite D L) a b ≡ true
  edges_stay a b h = parent_is_ancestor (finmap.get (overwrite D L) a) b
      (ap (λ o. is_parent_in (option_map parts_of o) b) (get_put_over D L a)
      ∙ ap (λ o. is_parent_in o b)
      (parts_either D (uids_of L) (last_entity L a) (finmap.get D a)
      ∙ ap (λ o. option_or o (option_map parts_of (finmap.get D a))) (sym (last_parts L a))
      ∙ ap (option_or (finmap.find uid_order a (reversed (map entry_of (map input_of L))))) (plain.holds a)
      ∙ sym (get_overwritten W (map input_of L) a))
      ∙ h)

  pub reach_same : (q x : EntityUID) → is_wanted D part.uids q ≡ false → Reach (graph Y) q x ↔ Reach (graph W) q x
  reach_same q x _ = same_reach (graph W) (graph Y) (λ _. Unit {0}) (λ a b _. sym (same_graph a b)) (λ _ _ _ _. tt) q x tt

  -- The entities that are not overwritten are their own repairs.
  pub leaves_others : (q : EntityUID) → is_wanted D part.uids q ≡ false → Leaves D (overwrite D L) (uids_of L) q
  leaves_others q f =
      let is = over_old D part.uids L part.asked q f in
      record {
        parts = same_parts D (uids_of L) (finmap.get D q) (plain.apart q) ∙ ap (option_map unchanged_parts) (sym is);
        alone = λ un. sym (is ∙ keeps_all D (uids_of L) (finmap.get D q)
            (or_parts (is_member same_uid (uids_of L) q) (list_any (ancestry D q) (uids_of L)) un).1);
        stays = λ b h. was_ancestor D (uids_of L) (finmap.get D q) b (ap (λ o. is_ancestor_in o b) (sym is) ∙ h);
        only = λ b h. reach_over_reach (ancestry (overwrite D L)) (graph Y)
            (λ x y g. reach_edge (ancestry (overwrite D L)) x y (edges_stay x y g)) q b
            ((reach_same q b f).1 ((ancestry_plain W S plain q b).0 h));
      }
