-- An edit that passes can fail only with an allocation error.
use Rattle.std.specs.Prelude.{◌≡◌, List, [], ◌∷◌, ◌++◌}
use Rattle.std.proofs.Common.{refl, subst}
use Rattle.std.specs.List.{AllByRecursion}
use Rattle.cedar_graph.specs.declared.err.TcError.{TcError}
use Rattle.cedar_graph.specs.declared.err.TcError.TheVariants as tc
use Rattle.cedar_graph.specs.Faults.{vertex_of}
use Rattle.cedar_ids.specs.declared.entity.EntityUID.{EntityUID}
use Rattle.cedar_entity.specs.declared.err.EntitiesError.{EntitiesError}
use Rattle.cedar_entity.specs.declared.err.EntitiesError.TheVariants.{Memory}
use Rattle.cedar_entities.specs.Calls.{Passes, Add, Upsert}
use Rattle.cedar_entity_maps.specs.EditErrors.{NamesCycle, IsAddError, IsOverwriteError}
use Rattle.cedar_entity_maps.specs.InputStore.{InputStore, InputEntity, added, overwritten, Agrees, AllAgree, FirstDiffers, IsCyclic}
use Rattle.cedar_entity_maps.specs.laws.EditErrors.{refusal_cases}

all_at : {X : Type 0} (P : X → Type 0) (xs : List X) (y : X) (ys : List X) → AllByRecursion P (xs ++ y ∷ ys) → P y
all_at P [] y ys a = a.0
all_at P (x ∷ xs) y ys a = all_at P xs y ys a.1

-- If each entity of a list agrees, none is the first that differs.
none_differs : (W : InputStore) (L : List InputEntity) (u : EntityUID) → AllAgree W L → FirstDiffers W L u → ⊥
none_differs W L u all d =
    d.differs (all_at (Agrees W L) d.before d.at d.after (subst (AllByRecursion (Agrees W L)) d.place all))

-- An error that names a cycle shows that there is one.
cyclic_of : (W : InputStore) (t : TcError EntityUID) → NamesCycle W t → IsCyclic W
cyclic_of W (tc.MissingTcEdge e) h = absurd h
cyclic_of W (tc.HasCycle e) h = (vertex_of e, h)
cyclic_of W tc.Memory h = absurd h

-- Adding a list that passes can fail only with an allocation error.
pub adding_passes : (W : InputStore) (L : List InputEntity) (e : EntitiesError) → Passes W (Add L) → IsAddError W L e
    → e ≡ Memory
adding_passes W L e p = refusal_cases (FirstDiffers W L) (λ t. AllAgree W L × NamesCycle (added W L) t) (λ x. x ≡ Memory)
    (λ u d. absurd (none_differs W L u p.0 d)) (λ t h. absurd (p.1 (cyclic_of (added W L) t h.1))) refl e

-- Overwriting with a list that passes can fail only with an allocation error.
pub overwriting_passes : (W : InputStore) (L : List InputEntity) (e : EntitiesError) → Passes W (Upsert L)
    → IsOverwriteError W L e → e ≡ Memory
overwriting_passes W L e p = refusal_cases (λ _. ⊥) (NamesCycle (overwritten W L)) (λ x. x ≡ Memory) (λ u d. absurd d)
    (λ t h. absurd (p (cyclic_of (overwritten W L) t h))) refl e
