-- The graph of the ancestors in an entity map, and the edit rules of each mode.
use Rattle.std.specs.Prelude.{◌≡◌, Bool, true, false, not, ◌&&◌, ◌⊎◌, Option, Some, None}
use Rattle.std.specs.Bool.{OnTrue}
use Rattle.std.specs.FinMap as finmap
use Rattle.cedar_graph.specs.Graph.{Reach, IsClosed, IsClosedWithoutLoop}
use Rattle.cedar_graph.specs.Faults.{BreaksClosed}
use Rattle.cedar_graph.specs.declared.err.TcError.{TcError}
use Rattle.cedar_ids.specs.declared.entity.EntityUID.{EntityUID}
use Rattle.cedar_entity_maps.specs.ClosureFaults.{IsClosureFault}
use Rattle.cedar_entity.specs.View.{EntityView, has_ancestor}
use Rattle.cedar_entity_maps.specs.Plain.{EntityMap}
use Rattle.cedar_entity_maps.specs.declared.modes.TCComputation.{TCComputation}
use Rattle.cedar_entity_maps.specs.declared.modes.TCComputation.TheVariants as modes
use Rattle.cedar_entity_maps.specs.declared.modes.EditRules.{EditRules}

-- The edit rules of each mode. They state whether an addition repairs the affected entities, whether a repair reports
-- cycles, and whether the whole store is checked at the end. A removal repairs in every mode.
abbrev pub rules_of : TCComputation → EditRules
rules_of modes.AssumeAlreadyComputed = record { repairs = false; refuses_cycles = false; checks = false }
rules_of modes.EnforceAlreadyComputed = record { repairs = false; refuses_cycles = false; checks = true }
rules_of modes.ComputeNow = record { repairs = true; refuses_cycles = true; checks = false }

-- The edit rules with repair on. A removal uses them.
abbrev pub with_repair : EditRules → EditRules
with_repair r = record r { repairs = true }

-- Whether the edit rules compute the closure of added entities: an addition repairs and reports cycles, and the whole
-- store is not checked at the end.
abbrev pub computes : EditRules → Bool
computes r = (r.repairs && r.refuses_cycles) && not r.checks

-- P and Q, if the Boolean is true. Otherwise only P.
abbrev pub Also : Bool → Type 0 → Type 0 → Type 0
Also true P Q = P × Q
Also false P Q = P

-- P or Q, each only if its Boolean is true. If both are false, it never holds.
abbrev pub OneOf : Bool → Type 0 → Bool → Type 0 → Type 0
OneOf true P true Q = P ⊎ Q
OneOf true P false Q = P
OneOf false P true Q = Q
OneOf false P false Q = ⊥

-- P, if the mode computes the closure of added entities. Otherwise it always holds.
abbrev pub IfComputing : TCComputation → Type 0 → Type 0
IfComputing mode P = OnTrue (computes (rules_of mode)) P

-- Whether there is an entity, and b is one of its ancestors.
abbrev pub is_ancestor_in : Option EntityView → EntityUID → Bool
is_ancestor_in None b = false
is_ancestor_in (Some e) b = has_ancestor e b

-- The graph of the ancestors in an entity map: there is an edge from each entity to each of its parents and indirect
-- ancestors.
abbrev pub ancestry : EntityMap → EntityUID → EntityUID → Bool
ancestry D a b = is_ancestor_in (finmap.get D a) b

-- Holds if the graph of the ancestors is closed, and no entity is its own ancestor.
abbrev pub IsSound : EntityMap → Type 0
IsSound D = IsClosedWithoutLoop (ancestry D)

-- Holds if the error is a cycle, and it names a uid that reaches itself.
abbrev pub ReportsCycle : EntityMap → TcError EntityUID → Type 0
ReportsCycle D t = IsClosureFault t (λ _ _ _. ⊥) (λ v. Reach (ancestry D) v v)

-- Holds if the error names three uids that show that the ancestors are not closed. It also holds if the ancestors are
-- closed and the error names an entity that is its own ancestor.
abbrev pub ReportsUnsound : EntityMap → TcError EntityUID → Type 0
ReportsUnsound D t = IsClosureFault t (BreaksClosed (ancestry D)) (λ v. IsClosed (ancestry D) × (ancestry D v v ≡ true))
