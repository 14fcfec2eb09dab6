-- Case distinctions on the errors of a store's calls.
use Rattle.cedar_graph.specs.declared.err.TcError.{TcError}
use Rattle.cedar_ids.specs.declared.entity.EntityUID.{EntityUID}
use Rattle.cedar_entity_maps.specs.EditErrors.{MatchError, NamesOneOf}
use Rattle.cedar_entity.specs.declared.err.EntitiesError.{EntitiesError}
use Rattle.cedar_entity.specs.declared.err.EntitiesError.TheVariants as errors
use Rattle.std.specs.Prelude.{Bool}
use Rattle.cedar_entity.specs.declared.err.EntitiesError.TheVariants.{Memory}

-- A property of each duplicate that satisfies D, of each closure error that satisfies C, and of `Memory` is a property
-- of each error that they match.
pub refusal_cases : (D : EntityUID → Type 0) (C : TcError EntityUID → Type 0) (P : EntitiesError → Type 0)
    → ((u : EntityUID) → D u → P (errors.Duplicate u))
    → ((t : TcError EntityUID) → C t → P (errors.TransitiveClosureError t)) → P errors.Memory
    → (e : EntitiesError) → MatchError e D C → P e
refusal_cases D C P d c m (errors.Duplicate u) h = d u h
refusal_cases D C P d c m (errors.TransitiveClosureError t) h = c t h
refusal_cases D C P d c m (errors.SelfAncestor u) h = absurd h
refusal_cases D C P d c m (errors.DuplicateAncestor u a) h = absurd h
refusal_cases D C P d c m (errors.ActionParentIsNotAction u p) h = absurd h
refusal_cases D C P d c m (errors.ReservedKey k) h = absurd h
refusal_cases D C P d c m errors.Memory h = m

-- If C implies F, an error that matches C matches F.
pub refused_for : (C F : TcError EntityUID → Type 0) → ((t : TcError EntityUID) → C t → F t) → (e : EntitiesError)
    → MatchError e (λ _. ⊥) C → MatchError e (λ _. ⊥) F
refused_for C F f e h = refusal_cases (λ _. ⊥) C (λ r. MatchError r (λ _. ⊥) F) (λ u n. absurd n) f tt e h

-- An error that is not a closure error names no uid of a cycle.
pub none_named : (D : EntityUID → Type 0) (affected : EntityUID → Bool) (e : EntitiesError) → MatchError e D (λ _. ⊥)
    → NamesOneOf affected e
none_named D affected e h = refusal_cases D (λ _. ⊥) (NamesOneOf affected) (λ u n. tt) (λ t k. absurd k) tt e h
