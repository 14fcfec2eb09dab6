-- Overwritings of any store and of the plain store of an input store.
use Rattle.std.specs.Prelude.{◌≡◌, ◌↔◌, ◌⊎◌, Bool, true, false, not, ◌&&◌, ◌||◌, List, [], ◌∷◌, ◌++◌, Option, Some}
use Rattle.std.specs.Prelude.{None, map, ⊤}
use Rattle.std.proofs.Common.{inl, inr, ap, sym, refl, subst, ◌∙◌}
use Rattle.std.proofs.lemmas.Bool.{and_from, and_parts, both_ways, false≢true, false_from_ne_true, not-true, or_cases}
use Rattle.std.proofs.lemmas.List.{map-append}
use Rattle.std.proofs.lemmas.List.Folds.{list_any-append}
use Rattle.std.proofs.Math.Bool.{or_comm, or-false}
use Rattle.std.specs.Option.{option_or, option_map, IfSome, is_some}
use Rattle.std.specs.List.{AllByRecursion, list_any}
use Rattle.std.specs.Set.{is_member}
use Rattle.std.specs.FinSet as set
use Rattle.std.specs.Bool.{OnFalse, OnTrue}
use Rattle.std.specs.FinMap as finmap
use Rattle.cedar_graph.specs.Graph.{Reach}
use Rattle.cedar_ids.specs.UidOf.{same_uid, uid_order}
use Rattle.cedar_ids.specs.laws.UidOfLaws.{same_uid_decides}
use Rattle.cedar_ids.specs.declared.entity.EntityUID.{EntityUID}
use Rattle.cedar_entity.specs.laws.UidSets.{kept_in}
use Rattle.cedar_entity.specs.View.{EntityView, has_ancestor}
use Rattle.cedar_entity.specs.declared.err.EntitiesError.{EntitiesError}
use Rattle.cedar_entity_maps.specs.Edits.{uids_of, is_stale, without_stale, overwrite}
use Rattle.cedar_entity_maps.specs.laws.Edits.{last_entity, remains, IsEdit}
use Rattle.cedar_entity_maps.specs.Modes.{ancestry, computes, is_ancestor_in}
use Rattle.cedar_entity_maps.specs.Plain.{StoreView, EntityMap, IsPlainStore, HasNoIndirect, HaveNoIndirect, parts_of, input_of, keyed}
use Rattle.cedar_entities.specs.Present.{first_entity}
use Rattle.cedar_entity_maps.specs.EditErrors.{MatchError, IsOverwriteError}
use Rattle.cedar_entity_maps.specs.laws.EditErrors.{refusal_cases}
use Rattle.cedar_entity_maps.specs.Affected.{is_affected, is_indirect_in, IsEnded, IsEndError, RemovesStale}
use Rattle.cedar_entity_maps.specs.InputStore.{InputStore, graph, entry_of, reversed, overwritten}
use Rattle.cedar_entity_maps.specs.declared.modes.EditRules.{EditRules}
use Rattle.cedar_entity_maps.specs.laws.Lists.{all_push}
use Rattle.cedar_entity_maps.specs.laws.Rows.{where_so}
use Rattle.cedar_entity_maps.specs.laws.InputStores.{get_joined, find-mapped, get_overwritten}
use Rattle.cedar_entities.proofs.PlainStores.{found_parts, map_or, first_all, first_keyed}
use Rattle.cedar_entities.proofs.PlainEdits.{ended_plain, goes_between, held_alike, names_cycle, IsPlainEdit}
use Rattle.cedar_entities.proofs.Adding.{first_some}
use Rattle.cedar_entity_maps.specs.laws.AnyOf.{any_member, any_found, is_none, none_retained}
use Rattle.cedar_entities.proofs.Ending.{ended_taken}
use Rattle.cedar_entity_maps.specs.laws.PlainAncestors.{ancestry_plain}

-- Holds if each entity of D loses exactly its stale indirect ancestors: w is stale if a uid of the list that W contains
-- is w, or is between the entity and w.
abbrev StripsBetween : InputStore → List EntityUID → EntityMap → Type 0
StripsBetween W A D =
    (q w : EntityUID) → (is_indirect_in (option_map (without_stale D A) (finmap.get D q)) w ≡ true)
    ↔ ((is_indirect_in (finmap.get D q) w ≡ true)
    × ((u : EntityUID) → is_member same_uid A u ≡ true → finmap.contains_key W.entities u ≡ true → Reach (graph W) q u
    → (u ≡ w) ⊎ Reach (graph W) u w → ⊥))

map_reversed : {X Y : Type 0} (f : X → Y) (xs : List X) → reversed (map f xs) ≡ map f (reversed xs)
map_reversed f [] = refl
map_reversed f (x ∷ xs) = ap (λ l. l ++ f x ∷ []) (map_reversed f xs) ∙ sym (map-append f (reversed xs) (x ∷ []))

-- The last entity of a list is the first of the reversed list.
last_first : (L : List EntityView) (q : EntityUID) → last_entity L q ≡ first_entity (reversed L) q
last_first L q = ap (finmap.find uid_order q) (map_reversed keyed L)

all_reversed : {X : Type 0} (P : X → Type 0) (xs : List X) → AllByRecursion P xs → AllByRecursion P (reversed xs)
all_reversed P [] a = tt
all_reversed P (x ∷ xs) a = all_push P (reversed xs) x (all_reversed P xs a.1) a.0

last_parts : (L : List EntityView) (q : EntityUID)
    → finmap.find uid_order q (reversed (map entry_of (map input_of L))) ≡ option_map parts_of (last_entity L q)
last_parts L q =
    ap (finmap.find uid_order q) (map_reversed entry_of (map input_of L) ∙ ap (map entry_of) (map_reversed input_of L))
    ∙ found_parts (reversed L) q ∙ ap (option_map parts_of) (sym (last_first L q))

-- After an overwriting, a uid has the last entity of the list or, if there is none, its old entity without the stale
-- ancestors.
pub get_put_over : (D : EntityMap) (L : List EntityView) (q : EntityUID)
    → finmap.get (overwrite D L) q ≡ option_or (last_entity L q) (option_map (without_stale D (uids_of L)) (finmap.get D q))
get_put_over D L q =
    get_joined (reversed (map keyed L)) (map (λ e. (e.0, without_stale D (uids_of L) e.1)) (finmap.entries D)) q
    ∙ ap (option_or (last_entity L q)) (find-mapped (without_stale D (uids_of L)) (finmap.entries D) q
    ∙ ap (option_map (without_stale D (uids_of L))) (sym (finmap.get-entries D q)))

any_reversed : (f : EntityUID → Bool) (xs : List EntityUID) → list_any f (reversed xs) ≡ list_any f xs
any_reversed f [] = refl
any_reversed f (x ∷ xs) = list_any-append f (reversed xs) (x ∷ []) ∙ or_comm (list_any f (reversed xs)) (f x || false)
    ∙ (λ i. or-false (f x) i || any_reversed f xs i)

-- There is a last entity with a uid if and only if the uid is in the list.
pub last_some : (L : List EntityView) (q : EntityUID) → is_some (last_entity L q) ≡ is_member same_uid (uids_of L) q
last_some L q =
    ap is_some (last_first L q) ∙ first_some (reversed L) q
    ∙ ap (list_any (same_uid q)) (sym (map_reversed (λ (e : EntityView). e.uid) L))
    ∙ any_reversed (same_uid q) (uids_of L)

last_absent : (L : List EntityView) (q : EntityUID) → is_member same_uid (uids_of L) q ≡ false → last_entity L q ≡ None
last_absent L q h = is_none (last_entity L q) (last_some L q ∙ h)

lessened_remains : (D : EntityMap) (A : List EntityUID) (o : Option EntityView)
    → option_map (without_stale D A) o ≡ option_map (remains D (λ _. false) A) o
lessened_remains D A None = refl
lessened_remains D A (Some e) = ap Some
    (λ i. record (without_stale D A e) { parents = sym (none_retained e.parents (λ _. false) (λ x t. refl)) i })

-- An overwriting is an edit that removes nothing.
pub over_edit : (D : EntityMap) (L : List EntityView) → IsEdit D (overwrite D L) (λ _. false) (last_entity L) (uids_of L)
over_edit D L = record {
  applied = λ q. sym (last_some L q) ∙ sym (or-false (is_some (last_entity L q)));
  made = λ q. get_put_over D L q ∙ ap (option_or (last_entity L q)) (lessened_remains D (uids_of L) (finmap.get D q));
}

lessened_parts : (D : EntityMap) (A : List EntityUID) (o : Option EntityView)
    → option_map parts_of (option_map (without_stale D A) o) ≡ option_map parts_of o
lessened_parts D A None = refl
lessened_parts D A (Some e) = refl

module _ (W : InputStore) (S : StoreView) (plain : IsPlainStore W S) where
  between_goes : (q : EntityUID) (e : EntityView) → finmap.get S.entities q ≡ Some e → (w u : EntityUID)
      → is_stale S.entities e w u ≡ true → (finmap.contains_key S.entities u ≡ true)
      × (Reach (graph W) q u × ((u ≡ w) ⊎ Reach (graph W) u w))
  between_goes q e is w u t =
      let p = and_parts (finmap.contains_key S.entities u && has_ancestor e u) (same_uid u w || ancestry S.entities u w) t in
      let k = and_parts (finmap.contains_key S.entities u) (has_ancestor e u) p.0 in (
        k.0,
        (
          (ancestry_plain W S plain q u).0 (ap (λ o. is_ancestor_in o u) is ∙ k.1),
          elim (or_cases (same_uid u w) (ancestry S.entities u w) p.1) [
            | inl s ↦ inl ((same_uid_decides u w).0 s)
            | inr s ↦ inr ((ancestry_plain W S plain u w).0 s)
          ],
        ),
      )

  -- The indirect ancestors that remain.
  stays_at : (A : List EntityUID) (q w : EntityUID) (o : Option EntityView) → finmap.get S.entities q ≡ o
      → (is_indirect_in (option_map (without_stale S.entities A) o) w ≡ true) ↔ ((is_indirect_in o w ≡ true)
      × ((u : EntityUID) → is_member same_uid A u ≡ true → finmap.contains_key W.entities u ≡ true → Reach (graph W) q u
      → (u ≡ w) ⊎ Reach (graph W) u w → ⊥))
  stays_at A q w None is = (λ t. absurd (both_ways false refl t), λ p. p.0)
  stays_at A q w (Some e) is =
      let kept = kept_in e.indirect (λ x. list_any (is_stale S.entities e x) A) w in (
        λ t.
            let p = and_parts (set.contains e.indirect w) (not (list_any (is_stale S.entities e w) A)) (sym kept ∙ t) in (
              p.0,
              λ u m k r s. both_ways (list_any (is_stale S.entities e w) A)
                  (not-true (list_any (is_stale S.entities e w) A) p.1) (any_member (is_stale S.entities e w) A u m
                  (goes_between W S plain q e is w u r s (held_alike W S plain u ∙ k))),
            ),
        λ p. kept ∙ and_from (set.contains e.indirect w) (not (list_any (is_stale S.entities e w) A)) p.0
            (ap not (false_from_ne_true (list_any (is_stale S.entities e w) A) (λ t.
            let f = any_found (is_stale S.entities e w) A t in
            let g = between_goes q e is w f.0 f.2 in
            p.1 f.0 f.1 (sym (held_alike W S plain f.0) ∙ g.0) g.1.0 g.1.1))),
      )

  -- This is true of every list of uids.
  strips_between : (A : List EntityUID) → StripsBetween W A S.entities
  strips_between A q w = stays_at A q w (finmap.get S.entities q) refl

  between_at : (L : List EntityView) (N : EntityMap) → N ≡ overwrite S.entities L → RemovesStale W (uids_of L) S.entities N
  between_at L N s q w out =
      let is = ap (λ o. is_indirect_in o w) (ap (λ (E : EntityMap). finmap.get E q) s ∙ get_put_over S.entities L q
      ∙ ap (λ o. option_or o (option_map (without_stale S.entities (uids_of L)) (finmap.get S.entities q))) (last_absent L q out)) in
      (λ t. (strips_between (uids_of L) q w).0 (sym is ∙ t), λ p. is ∙ (strips_between (uids_of L) q w).1 p)

  pub over_between : (row : EditRules) (L : List EntityView) (affected : EntityUID → Bool) (N : EntityMap)
      → IsEnded row affected (overwrite S.entities L) N
      → OnFalse row.repairs (RemovesStale W (uids_of L) S.entities N)
  over_between row L affected N =
      ended_taken row affected (overwrite S.entities L) N (RemovesStale W (uids_of L) S.entities N) (between_at L N)

module _ (W : InputStore) (S : StoreView) (L : List EntityView) (plain : IsPlainStore W S) (given : HaveNoIndirect L) where
  overwriting : IsPlainEdit W (overwritten W (map input_of L)) S (overwrite S.entities L) (λ _. false) (last_entity L)
      (uids_of L)
  overwriting = record {
    plain = plain;
    made = over_edit S.entities L;
    there = λ q t. absurd (false≢true t);
    bare = λ q. subst (λ o. IfSome o HasNoIndirect) (sym (last_first L q))
        (first_all HasNoIndirect (reversed L) (all_reversed HasNoIndirect L given) q);
    keyed = λ q. subst (λ o. IfSome o (λ e. e.uid ≡ q)) (sym (last_first L q)) (first_keyed (reversed L) q);
    holds = λ q. ap (option_map parts_of) (get_put_over S.entities L q)
        ∙ map_or (last_entity L q) (option_map (without_stale S.entities (uids_of L)) (finmap.get S.entities q))
        ∙ (λ i. option_or (sym (last_parts L q) i)
        ((lessened_parts S.entities (uids_of L) (finmap.get S.entities q) ∙ plain.holds q) i))
        ∙ sym (get_overwritten W (map input_of L) q);
  }

  -- If ancestors are computed, the result is the plain store of the input store after the overwriting.
  pub over_plain : (row : EditRules) (N : StoreView) → N.partial ≡ S.partial
      → IsEnded row (is_affected S.entities (uids_of L)) (overwrite S.entities L) N.entities
      → OnTrue (computes row) (IsPlainStore (overwritten W (map input_of L)) N)
  over_plain row N same = ended_plain overwriting row N (same ∙ plain.partial)

  pub over_refused : (row : EditRules) (affected : EntityUID → Bool) (e : EntitiesError)
      → MatchError e (λ _. ⊥) (IsEndError row affected (overwrite S.entities L))
      → OnTrue (computes row) (IsOverwriteError W (map input_of L) e)
  over_refused row affected e h =
      refusal_cases (λ _. ⊥) (IsEndError row affected (overwrite S.entities L))
      (λ r. OnTrue (computes row) (IsOverwriteError W (map input_of L) r)) (λ u n. absurd n)
      (names_cycle overwriting row affected) (where_so (computes row) ⊤ tt) e h
