-- The effect of additions, overwritings and removals on a store, and their errors. The definitions cover every mode,
-- for any store and for the plain store of an input store.
use Rattle.std.specs.Prelude.{◌≡◌, List, Result, OnOk, IfOk, IfErr}
use Rattle.std.specs.Bool.{OnTrue}
use Rattle.std.specs.FinMap as finmap
use Rattle.cedar_ids.specs.declared.entity.EntityUID.{EntityUID}
use Rattle.cedar_entity.specs.View.{EntityView}
use Rattle.cedar_entity.specs.declared.err.EntitiesError.{EntitiesError}
use Rattle.cedar_entity.specs.declared.err.EntitiesError.TheVariants.{Memory}
use Rattle.cedar_entity_maps.specs.Edits.{overwrite, removed_all, uids_of}
use Rattle.cedar_entity_maps.specs.Modes.{computes, with_repair, rules_of, IfComputing}
use Rattle.cedar_entity_maps.specs.Plain.{StoreView, EntityMap, IsPlainStore}
use Rattle.cedar_entities.specs.Present.{with_first, AllMatch, FirstMismatch}
use Rattle.cedar_entity_maps.specs.EditErrors.{MatchError, NamesOneOf, IsAddError, IsOverwriteError}
use Rattle.cedar_entity_maps.specs.Affected.{inserted_in, is_affected, removed_from, IsEnded, IsEndError, IsFinalized}
use Rattle.cedar_entity_maps.specs.Affected.{IsFinalizeError, RemovesStale, StaysUnaffected, UnlessRepairing}
use Rattle.cedar_entity_maps.specs.InputStore.{InputStore, InputEntity, added, overwritten, deleted, AllAgree}
use Rattle.cedar_entity_maps.specs.declared.modes.TCComputation.{TCComputation}
use Rattle.cedar_entity_maps.specs.declared.modes.EditRules.{EditRules}

-- Holds for the effect of adding a list L to a store with the entity map D, and its errors.
--
-- - `agree`: if it succeeds, each entity of L is deeply equal to the existing one with its uid (see `AllMatch`).
-- - `ok`: the new map is D with the first entity of L for each new uid, finalized by the mode.
-- - `untouched`: entities that are not affected do not change.
-- - `err`: the error is `Memory`, a duplicate with the uid of the first entity that differs, or an error of the
--   finalization. The last is possible only if all entities agree.
-- - `named`: if the mode computes the closure, a cycle names an affected uid.
pub record AddsEntities {A : Type 0} (mode : TCComputation) (D : EntityMap) (L : List EntityView)
    (answer : Result A EntitiesError) (held_of : A → EntityMap) : Type 0 where
  pub agree : OnOk answer (AllMatch (finmap.get D) L)
  pub ok : IfOk answer (λ s. IsFinalized mode (is_affected D (inserted_in D L)) (with_first D L) (held_of s))
  pub untouched : IfOk answer (λ s. StaysUnaffected (inserted_in D L) D (held_of s))
  pub err : IfErr answer (λ e. MatchError e (FirstMismatch (finmap.get D) L)
      (λ t. AllMatch (finmap.get D) L × IsFinalizeError mode (is_affected D (inserted_in D L)) (with_first D L) t))
  pub named : IfErr answer (λ e. IfComputing mode (NamesOneOf (is_affected D (inserted_in D L)) e))

-- Holds for the effect of adding a list of input entities to the plain store of W.
--
-- - `agree`: if it succeeds, each entity of the list agrees with W (see `AllAgree`).
-- - `ok`: if the mode computes the closure, the new store is the plain store of `added W L`.
-- - `err`: if the mode computes the closure, the error is a possible error of adding L to W.
pub record AddsPlain (mode : TCComputation) (W : InputStore) (L : List InputEntity) (answer : Result StoreView EntitiesError)
    : Type 0 where
  pub agree : OnOk answer (AllAgree W L)
  pub ok : IfOk answer (λ s. IfComputing mode (IsPlainStore (added W L) s))
  pub err : IfErr answer (λ e. IfComputing mode (IsAddError W L e))

-- Holds for the effect of an edit of the uids `applied` on a store with the entity map D, and its errors. M is the map
-- after the edit and before its finalization by edit rules.
--
-- - `ok`: the new map is M, finalized by the edit rules.
-- - `untouched`: entities that are not affected do not change.
-- - `err`: the error is `Memory` or an error of the finalization.
-- - `named`: if the edit rules compute the closure, a cycle names an affected uid.
pub record EditsStore (row : EditRules) (applied : List EntityUID) (D M : EntityMap) (answer : Result StoreView EntitiesError)
    : Type 0 where
  pub ok : IfOk answer (λ s. IsEnded row (is_affected D applied) M s.entities)
  pub untouched : IfOk answer (λ s. StaysUnaffected applied D s.entities)
  pub err : IfErr answer (λ e. MatchError e (λ _. ⊥) (IsEndError row (is_affected D applied) M))
  pub named : IfErr answer (λ e. OnTrue (computes row) (NamesOneOf (is_affected D applied) e))

-- Holds for the effect of overwriting the entity map D with a list L. The new map has the last entity of L with each
-- uid, and the other entities of D without their stale ancestors. It is then finalized by the edit rules of the mode.
abbrev pub UpsertsEntities : TCComputation → EntityMap → List EntityView → Result StoreView EntitiesError → Type 0
UpsertsEntities mode D L answer = EditsStore (rules_of mode) (uids_of L) D (overwrite D L) answer

-- Holds for the effect of overwriting the plain store of W in a mode that does not repair. Each entity that is not
-- overwritten loses exactly its stale indirect ancestors: uids of the list that have an entity in W, and uids that it
-- reaches over such a uid.
abbrev pub StripsPlain : TCComputation → InputStore → EntityMap → List EntityUID → Result StoreView EntitiesError → Type 0
StripsPlain mode W D uids answer = IfOk answer (λ s. UnlessRepairing mode (RemovesStale W uids D s.entities))

-- Holds for the effect of overwriting the plain store of W with a list of input entities. If the mode computes the
-- closure, the new store is the plain store of `overwritten W L`. An error is then a possible error of overwriting W.
pub record UpsertsPlain (mode : TCComputation) (W : InputStore) (L : List InputEntity) (answer : Result StoreView EntitiesError)
    : Type 0 where
  pub ok : IfOk answer (λ s. IfComputing mode (IsPlainStore (overwritten W L) s))
  pub err : IfErr answer (λ e. IfComputing mode (IsOverwriteError W L e))

-- Holds for the effect of removing uids from the entity map D. The uids that are in D are removed, also as parents, and
-- the other entities lose their stale ancestors. The affected entities are repaired in every mode.
abbrev pub RemovesEntities : TCComputation → EntityMap → List EntityUID → Result StoreView EntitiesError → Type 0
RemovesEntities mode D uids answer =
    EditsStore (with_repair (rules_of mode)) (removed_from D uids) D (removed_all D uids) answer

-- Holds for the effect of removing uids from the plain store of W, in every mode. The new store is the plain store of
-- `deleted W uids`. The only error is an allocation failure.
pub record RemovesPlain (W : InputStore) (uids : List EntityUID) (answer : Result StoreView EntitiesError) : Type 0 where
  pub ok : IfOk answer (λ s. IsPlainStore (deleted W uids) s)
  pub err : IfErr answer (λ e. e ≡ Memory)
