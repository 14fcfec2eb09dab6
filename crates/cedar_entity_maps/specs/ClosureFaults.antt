-- The uids that an error of the closure names.
use Rattle.cedar_graph.specs.declared.err.TcError.{TcError}
use Rattle.cedar_graph.specs.declared.err.TcError.TheVariants as tc
use Rattle.cedar_graph.specs.Faults.{vertex_of}
use Rattle.cedar_ids.specs.declared.entity.EntityUID.{EntityUID}

-- Holds if the uids of a missing edge satisfy P, or the uid on a cycle satisfies Q, whichever the error is. `Memory`
-- does not satisfy it.
abbrev pub IsClosureFault : TcError EntityUID → (EntityUID → EntityUID → EntityUID → Type 0) → (EntityUID → Type 0)
    → Type 0
IsClosureFault (tc.MissingTcEdge e) P Q = P e.child e.parent e.grandparent
IsClosureFault (tc.HasCycle e) P Q = Q (vertex_of e)
IsClosureFault tc.Memory P Q = ⊥
