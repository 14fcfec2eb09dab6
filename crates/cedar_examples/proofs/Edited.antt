-- A store after an overwriting and a removal.
use Rattle.std.specs.Prelude.{◌≡◌, List, [], ◌∷◌, Result, Ok, Err, IfOk, IfErr}
use Rattle.std.proofs.Common.{sym, subst}
use Rattle.cedar_ids.specs.declared.entity.EntityUID.{EntityUID}
use Rattle.cedar_entities.specs.Changes.{RemovesPlain}
use Rattle.cedar_entity_maps.specs.Plain.{StoreView, IsPlainStore}
use Rattle.cedar_entity_maps.specs.EditErrors.{IsOverwriteError}
use Rattle.cedar_entity_maps.specs.InputStore.{InputStore, InputEntity, deleted, overwritten}
use Rattle.cedar_entity.specs.declared.err.EntitiesError.{EntitiesError}

module _ (S T : StoreView) (L : List InputEntity)
    (put : (W : InputStore) → IsPlainStore W S → IsPlainStore (overwritten W L) T) where
  pub removed_all : (r : Result StoreView EntitiesError) (us : List EntityUID) (u : EntityUID) → us ≡ u ∷ [] →
      ((W : InputStore) → IsPlainStore W T → RemovesPlain W us r) →
      IfOk r (λ s. (W : InputStore) → IsPlainStore W S → IsPlainStore (deleted (overwritten W L) (u ∷ [])) s)
  removed_all (Ok s) us u one removed = λ W plain.
      subst (λ vs. IsPlainStore (deleted (overwritten W L) vs) s) one (removed (overwritten W L) (put W plain)).ok
  removed_all (Err e) us u one removed = tt

  pub refused_for_memory : (r : Result StoreView EntitiesError) (us : List EntityUID) →
      ((W : InputStore) → IsPlainStore W T → RemovesPlain W us r) →
      IfErr r (λ e. (W : InputStore) → IsPlainStore W S → IsOverwriteError W L e)
  refused_for_memory (Ok s) us removed = tt
  refused_for_memory (Err e) us removed = λ W plain.
      subst (IsOverwriteError W L) (sym (removed (overwritten W L) (put W plain)).err) tt
