-- The effect of an addition on the map of a store.
use Rattle.std.specs.Prelude.{◌≡◌, ◌&&◌, not, true, List, map, Option, None, ⊤}
use Rattle.std.proofs.Common.{ap, refl, sym, subst, ◌∙◌}
use Rattle.std.proofs.Math.Bool.{and-true}
use Rattle.std.proofs.lemmas.Bool.{or_left}
use Rattle.std.specs.List.{list_any}
use Rattle.std.specs.Set.{is_member}
use Rattle.std.specs.Option.{option_or, is_some}
use Rattle.std.specs.HashMap.{HashMap}
use Rattle.std.specs.FinMap as finmap
use Rattle.cedar_graph.specs.declared.err.TcError.{TcError}
use Rattle.cedar_ids.specs.UidOf.{same_uid}
use Rattle.cedar_ids.specs.declared.entity.EntityUID.{EntityUID}
use Rattle.cedar_entity.specs.declared.node.SharedEntity.{SharedEntity}
use Rattle.cedar_entity_maps.specs.declared.modes.TCComputation.{TCComputation}
use Rattle.cedar_entity.specs.declared.err.EntitiesError.{EntitiesError}
use Rattle.cedar_entity.specs.declared.err.EntitiesError.TheVariants as errors
use Rattle.cedar_entity_maps.specs.laws.EntityMap.{entity_at, held_map}
use Rattle.cedar_entity_maps.specs.Modes.{ancestry, computes, rules_of, IfComputing}
use Rattle.cedar_entity_maps.specs.Plain.{StoreView, EntityMap, IsPlainStore, HaveNoIndirect, input_of}
use Rattle.cedar_entities.specs.Present.{first_entity, with_first, AllMatch, FirstMismatch}
use Rattle.cedar_entity_maps.specs.EditErrors.{MatchError, NamesCycle, IsAddError}
use Rattle.cedar_entity_maps.specs.laws.Rows.{where_map, where_so}
use Rattle.cedar_entity_maps.specs.laws.EditErrors.{refusal_cases}
use Rattle.cedar_entity_maps.specs.Edits.{uids_of}
use Rattle.cedar_entity_maps.specs.Affected.{inserted_in, is_affected, IsFinalizeError}
use Rattle.cedar_entity_maps.specs.InputStore.{InputStore, added, FirstDiffers}
use Rattle.cedar_entity.specs.View.{EntityView}
use Rattle.cedar_entities.proofs.Adding.{all_agree, first_differs, first_some, inserted_members, refused_plain}
use Rattle.cedar_entities.proofs.StoreMaps.{get_with_first}
use Rattle.cedar_entity_maps.specs.laws.Seen.{seen_as, stored}

pub push_new : {S : Type 0} (m n : HashMap EntityUID SharedEntity S) (D : EntityMap) (L : List EntityView) → held_map m ≡ D
    → ((q : EntityUID) → entity_at n q ≡ option_or (entity_at m q) (first_entity L q)) → held_map n ≡ with_first D L
push_new m n D L is put =
    seen_as n (with_first D L) (λ q. put q ∙ ap (λ f. option_or (f q) (first_entity L q)) (stored m D is)
    ∙ sym (get_with_first D L q))

-- After an addition to an empty map, every entity is an inserted one.
pub all_inserted : {S : Type 0} (l m : HashMap EntityUID SharedEntity S) (L : List EntityView)
    → ((q : EntityUID) → entity_at l q ≡ None)
    → ((q : EntityUID) → entity_at m q ≡ option_or (entity_at l q) (first_entity L q)) → (q : EntityUID)
    → is_some (entity_at m q) ≡ true → is_affected (held_map l) (inserted_in (held_map l) L) q ≡ true
all_inserted l m L none put q there =
    or_left (is_member same_uid (inserted_in (held_map l) L) q)
    (list_any (ancestry (held_map l) q) (inserted_in (held_map l) L))
    (inserted_members (held_map l) L q
    ∙ ap (λ o. is_member same_uid (uids_of L) q && not (is_some o)) (sym (ap (λ f. f q) (stored l (held_map l) refl))
    ∙ none q)
    ∙ and-true (is_member same_uid (uids_of L) q)
    ∙ sym (first_some L q)
    ∙ sym (ap is_some (put q ∙ ap (λ o. option_or o (first_entity L q)) (none q)))
    ∙ there)

-- A duplicate error depends only on the existing entities.
pub mismatch_at : (f g : EntityUID → Option EntityView) (L : List EntityView) (C : TcError EntityUID → Type 0) → f ≡ g
    → (e : EntitiesError) → MatchError e (FirstMismatch f L) (λ _. ⊥) → MatchError e (FirstMismatch g L) C
mismatch_at f g L C is e h =
    refusal_cases (FirstMismatch f L) (λ _. ⊥) (λ r. MatchError r (FirstMismatch g L) C)
    (λ u m. subst (λ k. FirstMismatch k L u) is m) (λ t n. absurd n) tt e h

-- An error of the closure, after all entities agreed.
pub closure_at : (C : TcError EntityUID → Type 0) (P : EntityUID → Type 0) (A : Type 0) → A → (e : EntitiesError)
    → MatchError e (λ _. ⊥) C → MatchError e P (λ t. A × C t)
closure_at C P A a e h =
    refusal_cases (λ _. ⊥) C (λ r. MatchError r P (λ t. A × C t)) (λ u n. absurd n) (λ t k. (a, k)) tt e h

-- In a plain store an error is an error of the input store.
pub refused_over_plain : (W : InputStore) (S : StoreView) (L : List EntityView) → IsPlainStore W S → HaveNoIndirect L
    → (mode : TCComputation) (e : EntitiesError)
    → MatchError e (FirstMismatch (finmap.get S.entities) L) (λ t. AllMatch (finmap.get S.entities) L
    × IsFinalizeError mode (is_affected S.entities (inserted_in S.entities L)) (with_first S.entities L) t)
    → IfComputing mode (IsAddError W (map input_of L) e)
refused_over_plain W S L plain bare mode e h =
    let now = computes (rules_of mode) in
    let D = with_first S.entities L in
    let affected = is_affected S.entities (inserted_in S.entities L) in
    refusal_cases (FirstMismatch (finmap.get S.entities) L)
    (λ t. AllMatch (finmap.get S.entities) L × IsFinalizeError mode affected D t)
    (λ r. IfComputing mode (IsAddError W (map input_of L) r))
    (λ u m. where_so now (FirstDiffers W (map input_of L) u) (first_differs W S L plain bare u m))
    (λ t k. where_map now (NamesCycle (added W (map input_of L)) t) (IsAddError W (map input_of L)
    (errors.TransitiveClosureError t)) (λ c. (all_agree W S L plain bare k.0, c))
    (refused_plain W S L plain bare (rules_of mode) affected t k.1)) (where_so now ⊤ tt) e h
