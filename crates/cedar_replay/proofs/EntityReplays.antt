-- The entities that calls produce, one call after another.
use Rattle.std.specs.Prelude.{◌≡◌, ℕ, suc, ◌+◌, List, [], ◌∷◌, ◌++◌, length, map, Result, Ok, Err, OnOk, IfOk, IfErr}
use Rattle.std.proofs.Common.{ap, refl, ◌∙◌, arith}
use Rattle.cedar_ids.specs.declared.entity.EntityUID.{EntityUID}
use Rattle.cedar_entity.specs.declared.err.EntitiesError.{EntitiesError}
use Rattle.cedar_entity.specs.declared.err.EntitiesError.TheVariants.{Memory}
use Rattle.cedar_entities.specs.Changes.{AddsPlain, RemovesPlain, UpsertsPlain}
use Rattle.cedar_entity_maps.specs.Plain.{StoreView, IsPlainStore}
use Rattle.cedar_entity_maps.specs.EditErrors.{IsAddError, IsOverwriteError}
use Rattle.cedar_entity_maps.specs.InputStore.{InputStore, InputEntity, empty_input, added, deleted, overwritten, AllAgree, IsCyclic}
use Rattle.cedar_entity_maps.specs.declared.modes.TCComputation.TheVariants.{ComputeNow}
use Rattle.cedar_entities.specs.Calls.{Call, apply_call, apply_calls, Passes, AllPass, IsErrorAs, StopsAt}
use Rattle.std.proofs.lemmas.List.{map-append}

pub made_push : (W : InputStore) (cs : List Call) (c : Call) → apply_calls W (cs ++ c ∷ []) ≡ apply_call (apply_calls W cs) c
made_push W [] c = refl
made_push W (d ∷ cs) c = made_push (apply_call W d) cs c

pub pass_push : (W : InputStore) (cs : List Call) (c : Call) → AllPass W cs → Passes (apply_calls W cs) c
    → AllPass W (cs ++ c ∷ [])
pass_push W [] c h p = (p, tt)
pass_push W (d ∷ cs) c h p = (h.0, pass_push (apply_call W d) cs c h.1 p)

length_same : {X Y : Type 0} (f : X → Y) (xs : List X) → length (map f xs) ≡ length xs
length_same f [] = refl
length_same f (x ∷ xs) = ap suc (length_same f xs)

pub longer : {X : Type 0} (xs : List X) (x : X) → length (xs ++ x ∷ []) ≡ length xs + 1
longer [] x = refl
longer (y ∷ ys) x = let e = longer ys x in omega arith

-- A failed call ends the list.
pub stops : {X : Type 0} (f : X → Call) (all done : List X) (c : X) (rest : List X) (n : ℕ) (e : EntitiesError)
    → all ≡ done ++ c ∷ rest → length done ≡ n
    → AllPass empty_input (map f done) → IsErrorAs (apply_calls empty_input (map f done)) (f c) e
    → StopsAt (map f all) n e
stops f all done c rest n e place count passed refused = record {
  before = map f done;
  at = f c;
  after = map f rest;
  place = ap (map f) place ∙ map-append f done (c ∷ rest);
  count = length_same f done ∙ count;
  passed = passed;
  refused = refused;
}

-- Whether the input store has no cycle.
abbrev pub HasNone : InputStore → Type 0
HasNone W = IsCyclic W → ⊥

module _ (T : StoreView) (base : InputStore → InputStore) (L : List InputEntity) where
  -- The result of adding entities to a plain store, in terms of its input store: success, content and errors.
  pub add_passes : (r : Result StoreView EntitiesError)
      → ((W : InputStore) → IsPlainStore W T → AddsPlain ComputeNow (base W) L r)
      → OnOk r ((W : InputStore) → IsPlainStore W T → AllAgree (base W) L × HasNone (added (base W) L))
  add_passes (Ok S) adds = λ W h.
      let given = adds W h in
      let plain : IsPlainStore (added (base W) L) S = given.ok in
      (given.agree, λ c. plain.acyclic c.0 c.1)
  add_passes (Err e) adds = tt

  pub add_makes : (r : Result StoreView EntitiesError)
      → ((W : InputStore) → IsPlainStore W T → AddsPlain ComputeNow (base W) L r)
      → IfOk r (λ S. (W : InputStore) → IsPlainStore W T → IsPlainStore (added (base W) L) S)
  add_makes (Ok S) adds = λ W h. (adds W h).ok
  add_makes (Err e) adds = tt

  pub add_refuses : (r : Result StoreView EntitiesError)
      → ((W : InputStore) → IsPlainStore W T → AddsPlain ComputeNow (base W) L r)
      → IfErr r (λ e. (W : InputStore) → IsPlainStore W T → IsAddError (base W) L e)
  add_refuses (Ok S) adds = tt
  add_refuses (Err e) adds = λ W h. (adds W h).err

module _ (T : StoreView) (L : List InputEntity) where
  -- The result of upserting entities, in the same terms.
  pub upsert_passes : (r : Result StoreView EntitiesError)
      → ((W : InputStore) → IsPlainStore W T → UpsertsPlain ComputeNow W L r)
      → OnOk r ((W : InputStore) → IsPlainStore W T → HasNone (overwritten W L))
  upsert_passes (Ok S) puts = λ W h c.
      let plain : IsPlainStore (overwritten W L) S = (puts W h).ok in
      plain.acyclic c.0 c.1
  upsert_passes (Err e) puts = tt

  pub upsert_makes : (r : Result StoreView EntitiesError)
      → ((W : InputStore) → IsPlainStore W T → UpsertsPlain ComputeNow W L r)
      → IfOk r (λ S. (W : InputStore) → IsPlainStore W T → IsPlainStore (overwritten W L) S)
  upsert_makes (Ok S) puts = λ W h. (puts W h).ok
  upsert_makes (Err e) puts = tt

  pub upsert_refuses : (r : Result StoreView EntitiesError)
      → ((W : InputStore) → IsPlainStore W T → UpsertsPlain ComputeNow W L r)
      → IfErr r (λ e. (W : InputStore) → IsPlainStore W T → IsOverwriteError W L e)
  upsert_refuses (Ok S) puts = tt
  upsert_refuses (Err e) puts = λ W h. (puts W h).err

module _ (T : StoreView) (U : List EntityUID) where
  -- The result of removing entities, which always succeeds.
  pub remove_makes : (r : Result StoreView EntitiesError) → ((W : InputStore) → IsPlainStore W T → RemovesPlain W U r)
      → IfOk r (λ S. (W : InputStore) → IsPlainStore W T → IsPlainStore (deleted W U) S)
  remove_makes (Ok S) out = λ W h. (out W h).ok
  remove_makes (Err e) out = tt

  pub remove_refuses : (r : Result StoreView EntitiesError) → ((W : InputStore) → IsPlainStore W T → RemovesPlain W U r)
      → IfErr r (λ e. (W : InputStore) → IsPlainStore W T → e ≡ Memory)
  remove_refuses (Ok S) out = tt
  remove_refuses (Err e) out = λ W h. (out W h).err
