-- The meaning of the errors of a store's calls.
use Rattle.std.specs.Prelude.{◌≡◌, ⊤, Bool, true, List}
use Rattle.cedar_graph.specs.Graph.{Reach}
use Rattle.cedar_graph.specs.declared.err.TcError.{TcError}
use Rattle.cedar_ids.specs.declared.entity.EntityUID.{EntityUID}
use Rattle.cedar_entity_maps.specs.ClosureFaults.{IsClosureFault}
use Rattle.cedar_entity_maps.specs.InputStore.{InputStore, InputEntity, graph, added, overwritten, AllAgree, FirstDiffers}
use Rattle.cedar_entity.specs.declared.err.EntitiesError.{EntitiesError}
use Rattle.cedar_entity.specs.declared.err.EntitiesError.TheVariants as errors

-- Holds if the uid of a duplicate satisfies D, or the error of the closure satisfies C, whichever the error is.
-- `Memory` satisfies it always. No other error does.
abbrev pub MatchError : EntitiesError → (EntityUID → Type 0) → (TcError EntityUID → Type 0) → Type 0
MatchError (errors.Duplicate u) D C = D u
MatchError (errors.TransitiveClosureError t) D C = C t
MatchError errors.Memory D C = ⊤
MatchError e D C = ⊥

-- Holds if the error is a cycle, and it names a uid that reaches itself over the parents of W.
abbrev pub NamesCycle : InputStore → TcError EntityUID → Type 0
NamesCycle W t = IsClosureFault t (λ _ _ _. ⊥) (λ v. Reach (graph W) v v)

-- Holds if e is a possible error of adding the list L to W. `Memory` always is. A duplicate names the first entity of L
-- that differs from the existing one. A cycle is reported only if no entity differs, and it is a cycle of W after the
-- addition.
abbrev pub IsAddError : InputStore → List InputEntity → EntitiesError → Type 0
IsAddError W L e = MatchError e (FirstDiffers W L) (λ t. AllAgree W L × NamesCycle (added W L) t)

-- Holds if e is a possible error of overwriting W with the list L: `Memory`, or a cycle of W after the overwriting.
abbrev pub IsOverwriteError : InputStore → List InputEntity → EntitiesError → Type 0
IsOverwriteError W L e = MatchError e (λ _. ⊥) (NamesCycle (overwritten W L))

-- Holds if the error is a cycle that names an affected uid. A duplicate, a missing edge and `Memory` satisfy it always.
abbrev pub NamesOneOf : (EntityUID → Bool) → EntitiesError → Type 0
NamesOneOf affected e = MatchError e (λ _. ⊤) (λ t. IsClosureFault t (λ _ _ _. ⊤) (λ v. affected v ≡ true))
