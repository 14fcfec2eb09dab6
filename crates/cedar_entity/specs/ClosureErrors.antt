-- The conversion of errors of the closure.
use Rattle.std.specs.Prelude.{◌≡◌, ◌⊎◌}
use Rattle.cedar_graph.specs.declared.err.TcError.{TcError}
use Rattle.cedar_graph.specs.declared.err.TcError.TheVariants as tc
use Rattle.cedar_ids.specs.declared.entity.EntityUID.{EntityUID}
use Rattle.cedar_entity.specs.declared.err.EntitiesError.{EntitiesError}
use Rattle.cedar_entity.specs.declared.err.EntitiesError.TheVariants as errors

-- The store's error for an error of the closure. `Memory` becomes `Memory`, and any other error becomes
-- `TransitiveClosureError`.
abbrev pub refusal_of : TcError EntityUID → EntitiesError
refusal_of (tc.MissingTcEdge e) = errors.TransitiveClosureError (tc.MissingTcEdge e)
refusal_of (tc.HasCycle c) = errors.TransitiveClosureError (tc.HasCycle c)
refusal_of tc.Memory = errors.Memory

-- Holds if `e` is the store's error for `t`, or is `Memory`.
abbrev pub ReportsClosureError : TcError EntityUID → EntitiesError → Type 0
ReportsClosureError t e = (e ≡ refusal_of t) ⊎ (e ≡ errors.Memory)
