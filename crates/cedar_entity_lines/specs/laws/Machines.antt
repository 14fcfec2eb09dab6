-- The output of the calls on the store.
use Rattle.std.specs.Prelude.{◌≡◌, ℕ, List, ◌++◌, codes, Result, Ok, Err}
use Rattle.cedar_lines.specs.Lines.{written_line}
use Rattle.cedar_graph.specs.declared.err.TcError.TheVariants.{HasCycle}
use Rattle.cedar_entity_maps.specs.ClosureFaults.{IsClosureFault}
use Rattle.cedar_entity_maps.specs.EditErrors.{MatchError}
use Rattle.cedar_entity_maps.specs.Plain.{StoreView, IsPlainStore}
use Rattle.cedar_entity_maps.specs.InputStore.{InputStore, empty_input}
use Rattle.cedar_entity.specs.declared.err.EntitiesError.{EntitiesError}
use Rattle.cedar_entity.specs.declared.err.EntitiesError.TheVariants.{Duplicate, TransitiveClosureError}
use Rattle.cedar_entity_lines.specs.EntityOutput.{count_line, uid_text}
use Rattle.cedar_entity_lines.specs.Holding.{StoreAndWaiting, IsAsciiUid}

-- Whether an error can come from a call that computes ancestors: a duplicate, a cycle, or an allocation failure.
abbrev pub IsTold : EntitiesError → Type 0
IsTold e = MatchError e (λ _. Unit {0}) (λ t. IsClosureFault t (λ _ _ _. ⊥) (λ _. Unit {0}))

-- Whether an error appends its line. For an error that is never written, this holds for no output.
abbrev pub Refused : EntitiesError → List ℕ → List ℕ → Type 0
Refused (Duplicate u) old new = IsAsciiUid u → new ≡ old ++ written_line (codes "refused: duplicate " ++ uid_text u)
Refused (TransitiveClosureError (HasCycle v)) old new = new ≡ old ++ written_line (codes "refused: cycle")
Refused e old new = ⊥

-- Whether the result of a call is stored and written. After a success the new store is stored, and its number of
-- entities is written. After an error the store is empty, and the error is written.
abbrev pub KeepsAndTells : Result StoreView EntitiesError → StoreAndWaiting → List ℕ → List ℕ → Type 0
KeepsAndTells (Ok S) m old new = (W : InputStore) → IsPlainStore W S → IsPlainStore W m.store × (new ≡ old ++ count_line W)
KeepsAndTells (Err e) m old new = IsPlainStore empty_input m.store × Refused e old new
