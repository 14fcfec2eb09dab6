-- The result of a call that changes a store. An allocation failure satisfies every statement.
use Rattle.std.specs.Prelude.{◌≡◌, List, map, Result, Ok, Err, IfOk}
use Rattle.std.specs.Result.{IsErrAnd}
use Rattle.std.proofs.Common.{refl, subst, sym}
use Rattle.std.specs.Bool.{OnTrue}
use Rattle.std.specs.FinMap as finmap
use Rattle.std.specs.HashMap.{HashMap}
use Rattle.std.specs.Option.{option_or}
use Rattle.cedar_ids.specs.declared.entity.EntityUID.{EntityUID}
use Rattle.cedar_entity.specs.View.{EntityView}
use Rattle.cedar_entity.specs.declared.err.EntitiesError.{EntitiesError}
use Rattle.cedar_entity.specs.declared.err.EntitiesError.TheVariants.{Memory}
use Rattle.cedar_entity.specs.declared.node.SharedEntity.{SharedEntity}
use Rattle.cedar_entities.specs.Changes.{AddsEntities, AddsPlain, EditsStore, RemovesEntities, RemovesPlain}
use Rattle.cedar_entities.specs.Changes.{StripsPlain, UpsertsEntities, UpsertsPlain}
use Rattle.cedar_entity_maps.specs.Edits.{uids_of}
use Rattle.cedar_entity_maps.specs.Modes.{computes, rules_of, IfComputing}
use Rattle.cedar_entity_maps.specs.Plain.{StoreView, EntityMap, IsPlainStore, HaveNoIndirect, input_of}
use Rattle.cedar_entities.specs.Present.{first_entity, with_first, AllMatch, FirstMismatch}
use Rattle.cedar_entity_maps.specs.EditErrors.{MatchError, NamesOneOf}
use Rattle.cedar_entity_maps.specs.Affected.{inserted_in, is_affected, IsEndError, IsFinalizeError, StaysUnaffected}
use Rattle.cedar_entity_maps.specs.InputStore.{InputStore}
use Rattle.cedar_entity_maps.specs.declared.modes.TCComputation.{TCComputation}
use Rattle.cedar_entity_maps.specs.declared.modes.EditRules.{EditRules}
use Rattle.cedar_entity_maps.specs.laws.Ends.{Ends}
use Rattle.cedar_entity_maps.specs.laws.EntityMap.{entity_at, held_map}
use Rattle.cedar_entity_maps.specs.laws.Rows.{where_so}
use Rattle.cedar_entities.proofs.Adding.{add_edit, all_agree, settled_plain}
use Rattle.cedar_entities.proofs.Adds.{closure_at, mismatch_at, push_new, refused_over_plain}
use Rattle.cedar_entity_maps.specs.laws.Seen.{stored}
use Rattle.cedar_entity_maps.specs.laws.EditErrors.{none_named}
use Rattle.cedar_entities.proofs.Ending.{ended_untouched}
use Rattle.cedar_entities.proofs.Overwriting.{over_between, over_plain, over_refused}
use Rattle.cedar_entities.proofs.PlainEdits.{edit_untouched}
use Rattle.cedar_entities.proofs.Removing.{left_refused, mended_plain}

-- If there is an error, a statement on the new store holds.
pub none_came : {A : Type 0} (answer : Result A EntitiesError) (P : A → Type 0) (e : EntitiesError)
    → IsErrAnd answer (λ x. x ≡ e) → IfOk answer P
none_came (Ok a) P e h = absurd h
none_came (Err x) P e h = tt

module _ {A : Type 0} (mode : TCComputation) (D : EntityMap) (L : List EntityView) (held_of : A → EntityMap) where
  -- An error of an addition.
  pub adds_refused : (answer : Result A EntitiesError) (e : EntitiesError) → IsErrAnd answer (λ x. x ≡ e)
      → MatchError e (FirstMismatch (finmap.get D) L)
      (λ t. AllMatch (finmap.get D) L × IsFinalizeError mode (is_affected D (inserted_in D L)) (with_first D L) t)
      → IfComputing mode (NamesOneOf (is_affected D (inserted_in D L)) e)
      → AddsEntities mode D L answer held_of
  adds_refused (Ok a) e h err named = absurd h
  adds_refused (Err x) e h err named = subst (λ f. AddsEntities mode D L (Err f) held_of) (sym h)
      (record { agree = tt; ok = tt; untouched = tt; err = err; named = named })

  -- An allocation failed.
  pub adds_nothing : (answer : Result A EntitiesError) → IsErrAnd answer (λ x. x ≡ Memory)
      → AddsEntities mode D L answer held_of
  adds_nothing answer h = adds_refused answer Memory h tt (where_so (computes (rules_of mode)) _ tt)

adds_ended : {A : Type 0} (mode : TCComputation) (D : EntityMap) (L : List EntityView) (N : EntityMap)
    (answer : Result A EntitiesError) → AllMatch (finmap.get D) L
    → Ends (rules_of mode) (is_affected D (inserted_in D L)) (with_first D L) N answer
    → AddsEntities mode D L answer (λ _. N)
adds_ended mode D L N (Ok a) agree ends = record {
  agree = agree;
  ok = ends.ok;
  untouched = ended_untouched (rules_of mode) (inserted_in D L) D (with_first D L) N (edit_untouched (add_edit D L))
      ends.ok;
  err = tt;
  named = tt;
}
adds_ended mode D L N (Err e) agree ends = adds_refused mode D L (λ _. N) (Err e) e refl
    (closure_at (IsFinalizeError mode (is_affected D (inserted_in D L)) (with_first D L))
    (FirstMismatch (finmap.get D) L) (AllMatch (finmap.get D) L) agree e ends.err) ends.named

module _ {S A : Type 0} (m : HashMap EntityUID SharedEntity S) (mode : TCComputation) (L : List EntityView) where
  -- An entity of the list differed.
  pub adds_unmatched : (answer : Result A EntitiesError) (held_of : A → EntityMap) (e : EntitiesError)
      → IsErrAnd answer (λ x. x ≡ e) → MatchError e (FirstMismatch (entity_at m) L) (λ _. ⊥)
      → AddsEntities mode (held_map m) L answer held_of
  adds_unmatched answer held_of e h err =
      let D = held_map m in
      adds_refused mode D L held_of answer e h (mismatch_at (entity_at m) (finmap.get D) L _ (stored m D refl) e err)
      (where_so (computes (rules_of mode)) _
      (none_named (FirstMismatch (entity_at m) L) (is_affected D (inserted_in D L)) e err))

  -- All entities were inserted, and the addition was finalized.
  pub adds_settled : (n : HashMap EntityUID SharedEntity S) (N : EntityMap) (answer : Result A EntitiesError)
      → AllMatch (entity_at m) L → ((q : EntityUID) → entity_at n q ≡ option_or (entity_at m q) (first_entity L q))
      → Ends (rules_of mode) (is_affected (held_map m) (inserted_in (held_map m) L)) (held_map n) N
      answer
      → AddsEntities mode (held_map m) L answer (λ _. N)
  adds_settled n N answer agree put ends =
      let D = held_map m in
      adds_ended mode D L N answer (subst (λ f. AllMatch f L) (stored m D refl) agree)
      (subst (λ E. Ends (rules_of mode) (is_affected D (inserted_in D L)) E N answer) (push_new m n D L refl put) ends)

-- A statement on an addition depends only on the entity map and the list.
pub adds_same : {A : Type 0} (mode : TCComputation) (D E : EntityMap) (L M : List EntityView)
    (answer : Result A EntitiesError) (held_of : A → EntityMap) → D ≡ E → L ≡ M
    → AddsEntities mode D L answer held_of → AddsEntities mode E M answer held_of
adds_same mode D E L M answer held_of is same h =
    subst (λ K. AddsEntities mode K M answer held_of) is
    (subst (λ l. AddsEntities mode D l answer held_of) same h)

-- The store has the content of the map.
pub adds_kept : {A : Type 0} (mode : TCComputation) (D : EntityMap) (L : List EntityView) (a : A) (s : StoreView)
    → AddsEntities mode D L (Ok a) (λ _. s.entities) → AddsEntities mode D L (Ok s) (λ t. t.entities)
adds_kept mode D L a s h =
    record { agree = h.agree; ok = h.ok; untouched = h.untouched; err = tt; named = tt }

-- An error of the map is an error of the store.
pub adds_told : {A B : Type 0} (mode : TCComputation) (D : EntityMap) (L : List EntityView) (e : EntitiesError)
    (N : A → EntityMap) (answer : Result B EntitiesError) (held_of : B → EntityMap) → IsErrAnd answer (λ x. x ≡ e)
    → AddsEntities mode D L (Err e) N → AddsEntities mode D L answer held_of
adds_told mode D L e N answer held_of h k = adds_refused mode D L held_of answer e h k.err k.named

module _ (mode : TCComputation) (S : StoreView) (L : List EntityView) where
  -- The result of an addition to a plain store.
  pub adds_plain : (answer : Result StoreView EntitiesError) → IfOk answer (λ s. s.partial ≡ S.partial)
      → AddsEntities mode S.entities L answer (λ s. s.entities)
      → (W : InputStore) → IsPlainStore W S → HaveNoIndirect L → AddsPlain mode W (map input_of L) answer
  adds_plain (Ok s) same adds W plain bare = record {
    agree = all_agree W S L plain bare adds.agree;
    ok = settled_plain W S L plain bare (rules_of mode) s same adds.ok;
    err = tt;
  }
  adds_plain (Err e) same adds W plain bare =
      record { agree = tt; ok = tt; err = refused_over_plain W S L plain bare mode e adds.err }

  pub upserts_plain : (answer : Result StoreView EntitiesError) → IfOk answer (λ s. s.partial ≡ S.partial)
      → UpsertsEntities mode S.entities L answer
      → (W : InputStore) → IsPlainStore W S → HaveNoIndirect L → UpsertsPlain mode W (map input_of L) answer
  upserts_plain (Ok s) same puts W plain bare =
      record { ok = over_plain W S L plain bare (rules_of mode) s same puts.ok; err = tt }
  upserts_plain (Err e) same puts W plain bare =
      record {
        ok = tt;
        err = over_refused W S L plain bare (rules_of mode) (is_affected S.entities (uids_of L)) e puts.err;
      }

  pub strips_plain : (answer : Result StoreView EntitiesError) → UpsertsEntities mode S.entities L answer
      → (W : InputStore) → IsPlainStore W S → StripsPlain mode W S.entities (uids_of L) answer
  strips_plain (Ok s) puts W plain =
      over_between W S plain (rules_of mode) L (is_affected S.entities (uids_of L)) s.entities puts.ok
  strips_plain (Err e) puts W plain = tt

module _ (row : EditRules) (A : List EntityUID) (D M : EntityMap) where
  edit_refused : (answer : Result StoreView EntitiesError) (e : EntitiesError) → IsErrAnd answer (λ x. x ≡ e)
      → MatchError e (λ _. ⊥) (IsEndError row (is_affected D A) M)
      → OnTrue (computes row) (NamesOneOf (is_affected D A) e) → EditsStore row A D M answer
  edit_refused (Ok s) e h err named = absurd h
  edit_refused (Err x) e h err named = subst (λ f. EditsStore row A D M (Err f)) (sym h)
      (record { ok = tt; untouched = tt; err = err; named = named })

  -- An error of the map is an error of the store.
  pub edit_told : {X : Type 0} (N : EntityMap) (answer : Result StoreView EntitiesError) (e : EntitiesError)
      → IsErrAnd answer (λ x. x ≡ e) → Ends {A = X} row (is_affected D A) M N (Err e) → EditsStore row A D M answer
  edit_told N answer e h ends = edit_refused answer e h ends.err ends.named

  -- An allocation failed.
  pub edit_nothing : (answer : Result StoreView EntitiesError) → IsErrAnd answer (λ x. x ≡ Memory)
      → EditsStore row A D M answer
  edit_nothing answer h = edit_refused answer Memory h tt (where_so (computes row) _ tt)

  -- The store has the content of the map.
  pub edit_made : {X : Type 0} (s : StoreView) (x : X) → StaysUnaffected A D M
      → Ends row (is_affected D A) M s.entities (Ok x) → EditsStore row A D M (Ok s)
  edit_made s x stays ends = record {
    ok = ends.ok;
    untouched = ended_untouched row A D M s.entities stays ends.ok;
    err = tt;
    named = tt;
  }

pub removes_plain : (mode : TCComputation) (S : StoreView) (uids : List EntityUID)
    (answer : Result StoreView EntitiesError)
    → IfOk answer (λ s. s.partial ≡ S.partial) → RemovesEntities mode S.entities uids answer
    → (W : InputStore) → IsPlainStore W S → RemovesPlain W uids answer
removes_plain mode S uids (Ok s) same out W plain =
    record { ok = mended_plain W S uids plain (rules_of mode) s same out.ok; err = tt }
removes_plain mode S uids (Err e) same out W plain =
    record { ok = tt; err = left_refused W S uids plain (rules_of mode) e out.err }

-- A statement on an overwriting depends only on the entity map and the list.
pub upserts_same : (mode : TCComputation) (D E : EntityMap) (L M : List EntityView) (answer : Result StoreView EntitiesError)
    → D ≡ E → L ≡ M → UpsertsEntities mode D L answer → UpsertsEntities mode E M answer
upserts_same mode D E L M answer is same h =
    subst (λ K. UpsertsEntities mode K M answer) is (subst (λ l. UpsertsEntities mode D l answer) same h)
