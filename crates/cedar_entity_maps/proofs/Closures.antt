-- The results of the closure functions on the map, as properties of the entity map.
use Rattle.std.specs.Prelude.{◌≡◌, Bool, true, false, Option, Some, None, Result, Ok, Err, IfErr, IsTrue, ⊤}
use Rattle.std.proofs.Common.{ap, sym, refl, subst, ◌∙◌, inl, inr}
use Rattle.std.specs.Option.{option_map, is_some}
use Rattle.std.proofs.lemmas.Bool.{false≢true}
use Rattle.std.specs.HashMap.{HashMap, get}
use Rattle.cedar_graph.specs.Graph.{KeepsNodes, KeepsEdges, AddsOnlyReached, Reach, IsClosure, IsClosed}
use Rattle.cedar_graph.specs.Graph.{IsClosedWithoutLoop, IsTrusted, HasNoCycle, HasNoCycleAt, graph_of, edge_at}
use Rattle.cedar_graph.specs.Faults.{MatchFault, NamesCycleAt, BreaksClosed}
use Rattle.cedar_graph.specs.declared.err.TcError.{TcError}
use Rattle.cedar_graph.specs.declared.err.TcError.TheVariants as tc
use Rattle.cedar_ids.specs.UidOf.{same_uid}
use Rattle.cedar_ids.specs.declared.entity.EntityUID.{EntityUID}
use Rattle.cedar_entity.specs.declared.node.SharedEntity.{SharedEntity}
use Rattle.std.specs.Result.{IsErrAnd}
use Rattle.cedar_entity.specs.declared.err.EntitiesError.{EntitiesError}
use Rattle.cedar_entity.specs.ClosureErrors.{refusal_of, ReportsClosureError}
use Rattle.cedar_entity_maps.specs.ClosureFaults.{IsClosureFault}
use Rattle.cedar_entity_maps.specs.EditErrors.{MatchError, NamesOneOf}
use Rattle.cedar_entity_maps.specs.laws.EntityMap.{entity_at, held_map, shared}
use Rattle.cedar_entity_maps.specs.Modes.{ancestry, is_ancestor_in, IsSound, ReportsCycle, ReportsUnsound}
use Rattle.cedar_entity_maps.specs.laws.EditErrors.{refusal_cases}
use Rattle.cedar_entity_maps.specs.Affected.{IsRepairOf, IsAcyclicAt}
use Rattle.cedar_entity.specs.View.{has_ancestor, UnchangedParts, unchanged_parts}
use Rattle.cedar_entity_maps.specs.laws.Seen.{get_seen}

abbrev pub node_edges : SharedEntity → EntityUID → Bool
node_edges n = has_ancestor (shared n)

abbrev pub node_kept : SharedEntity → UnchangedParts
node_kept n = unchanged_parts (shared n)

leads_at : (o : Option SharedEntity) (b : EntityUID) → edge_at node_edges o b ≡ is_ancestor_in (option_map shared o) b
leads_at None b = refl
leads_at (Some n) b = refl

-- The graph of the nodes is the graph of the ancestors.
pub same_ancestry : {S : Type 0} (m : HashMap EntityUID SharedEntity S)
    → graph_of same_uid node_edges m ≡ ancestry (held_map m)
same_ancestry m = λ i a b. (leads_at (get same_uid m a) b ∙ ap (λ o. is_ancestor_in o b) (sym (get_seen m a))) i

kept_at : (o : Option SharedEntity) → option_map unchanged_parts (option_map shared o) ≡ option_map node_kept o
kept_at None = refl
kept_at (Some n) = refl

pub repair_of : {S : Type 0} (m n : HashMap EntityUID SharedEntity S) (fix : EntityUID → Bool)
    → KeepsNodes same_uid (λ e. (shared e).uid) node_kept m n
    → ((q : EntityUID) → fix q ≡ false → get same_uid n q ≡ get same_uid m q)
    → KeepsEdges (graph_of same_uid node_edges m) (graph_of same_uid node_edges n)
    → AddsOnlyReached (graph_of same_uid node_edges m) (graph_of same_uid node_edges n)
    → (IsTrusted fix (graph_of same_uid node_edges m) → HasNoCycleAt fix (graph_of same_uid node_edges m)
    → IsClosure (graph_of same_uid node_edges m) (graph_of same_uid node_edges n))
    → IsRepairOf fix (held_map m) (held_map n)
repair_of m n fix keeps alone stays only closed =
    let G = same_ancestry m in
    let H = same_ancestry n in
    record {
      parts = λ q. ap (option_map unchanged_parts) (get_seen n q) ∙ kept_at (get same_uid n q) ∙ keeps.rests q
          ∙ sym (kept_at (get same_uid m q)) ∙ sym (ap (option_map unchanged_parts) (get_seen m q));
      alone = λ q t. get_seen n q ∙ ap (option_map shared) (alone q t) ∙ sym (get_seen m q);
      stays =
          subst (λ F. KeepsEdges F (ancestry (held_map n))) G
          (subst (KeepsEdges (graph_of same_uid node_edges m)) H stays);
      only =
          subst (λ F. AddsOnlyReached F (ancestry (held_map n))) G
          (subst (AddsOnlyReached (graph_of same_uid node_edges m)) H only);
      closed = subst (λ F. IsTrusted fix F → HasNoCycleAt fix F → IsClosure F (ancestry (held_map n))) G
          (subst (λ F. IsTrusted fix (graph_of same_uid node_edges m)
          → HasNoCycleAt fix (graph_of same_uid node_edges m)
          → IsClosure (graph_of same_uid node_edges m) F) H closed);
    }

pub acyclic_of : {S : Type 0} (m : HashMap EntityUID SharedEntity S) (fix : EntityUID → Bool)
    → (IsTrusted fix (graph_of same_uid node_edges m) → HasNoCycleAt fix (graph_of same_uid node_edges m))
    → IsAcyclicAt fix (held_map m)
acyclic_of m fix h = subst (λ F. IsTrusted fix F → HasNoCycleAt fix F) (same_ancestry m) h

-- An error of the closure, as the call returns it.
pub told : (P : EntityUID → EntityUID → EntityUID → Type 0) (Q : EntityUID → Type 0) (t : TcError EntityUID)
    → MatchFault t P Q → MatchError (refusal_of t) (λ _. ⊥) (λ u. IsClosureFault u P Q)
told P Q (tc.MissingTcEdge x) h = h
told P Q (tc.HasCycle x) h = h
told P Q tc.Memory h = tt

pub cycle_told : {S : Type 0} (m : HashMap EntityUID SharedEntity S) (asked : Bool) (fix : EntityUID → Bool)
    (t : TcError EntityUID) → NamesCycleAt asked fix (graph_of same_uid node_edges m) t
    → MatchError (refusal_of t) (λ _. ⊥) (λ u. IsTrue asked × ReportsCycle (held_map m) u)
cycle_told m asked fix (tc.MissingTcEdge x) h = absurd h
cycle_told m asked fix (tc.HasCycle x) h = (h.0, subst (λ F. Reach F x.vertex x.vertex) (same_ancestry m) h.2)
cycle_told m asked fix tc.Memory h = tt

pub closed_told : {S : Type 0} (m : HashMap EntityUID SharedEntity S) (t : TcError EntityUID)
    → MatchFault t (BreaksClosed (graph_of same_uid node_edges m))
    (λ v. IsClosed (graph_of same_uid node_edges m) × (graph_of same_uid node_edges m v v ≡ true))
    → MatchError (refusal_of t) (λ _. ⊥) (ReportsUnsound (held_map m))
closed_told m t h =
    told (BreaksClosed (ancestry (held_map m)))
    (λ v. IsClosed (ancestry (held_map m)) × (ancestry (held_map m) v v ≡ true)) t
    (subst (λ F. MatchFault t (BreaksClosed F) (λ v. IsClosed F × (F v v ≡ true))) (same_ancestry m) h)

-- A property of the store's error for a closure error is a property of the converted error.
pub refused_as : {X : Type 0} (C : TcError EntityUID → Type 0) (r : Result X EntitiesError) (t : TcError EntityUID)
    → IsErrAnd r (ReportsClosureError t) → MatchError (refusal_of t) (λ _. ⊥) C → IfErr r (λ e. MatchError e (λ _. ⊥) C)
refused_as C (Ok x) t h k = tt
refused_as C (Err e) t (inl h) k = subst (λ f. MatchError f (λ _. ⊥) C) (sym h) k
refused_as C (Err e) t (inr h) k = subst (λ f. MatchError f (λ _. ⊥) C) (sym h) tt

pub closed_seen : {S : Type 0} (m : HashMap EntityUID SharedEntity S)
    → IsClosedWithoutLoop (graph_of same_uid node_edges m) → IsSound (held_map m)
closed_seen m h = subst IsClosedWithoutLoop (same_ancestry m) h

-- If all entities are affected, nothing else changes.
alone_at : (o p : Option SharedEntity) (b : Bool) → option_map node_kept p ≡ option_map node_kept o
    → (is_some (option_map shared o) ≡ true → b ≡ true) → b ≡ false → p ≡ o
alone_at None None b same all out = refl
alone_at None (Some n) b same all out = absurd (false≢true (sym (ap is_some same)))
alone_at (Some m) p b same all out = absurd (false≢true (sym out ∙ all refl))

pub repair_of_whole : {S : Type 0} (m n : HashMap EntityUID SharedEntity S) (fix : EntityUID → Bool)
    → ((q : EntityUID) → is_some (entity_at m q) ≡ true → fix q ≡ true)
    → KeepsNodes same_uid (λ e. (shared e).uid) node_kept m n
    → KeepsEdges (graph_of same_uid node_edges m) (graph_of same_uid node_edges n)
    → AddsOnlyReached (graph_of same_uid node_edges m) (graph_of same_uid node_edges n)
    → IsClosure (graph_of same_uid node_edges m) (graph_of same_uid node_edges n)
    → IsRepairOf fix (held_map m) (held_map n)
repair_of_whole m n fix all keeps stays only closed =
    repair_of m n fix keeps (λ q. alone_at (get same_uid m q) (get same_uid n q) (fix q) (keeps.rests q) (all q)) stays
    only (λ t a. closed)

pub acyclic_whole : {S : Type 0} (m : HashMap EntityUID SharedEntity S) (fix : EntityUID → Bool)
    → HasNoCycle (graph_of same_uid node_edges m) → IsAcyclicAt fix (held_map m)
acyclic_whole m fix h = acyclic_of m fix (λ t a p. h a)

-- The uid of a cycle error is one of the checked uids.
pub cycle_named : {S : Type 0} (m : HashMap EntityUID SharedEntity S) (asked : Bool) (fix : EntityUID → Bool)
    (t : TcError EntityUID) → NamesCycleAt asked fix (graph_of same_uid node_edges m) t
    → MatchError (refusal_of t) (λ _. ⊥) (λ u. IsClosureFault u (λ _ _ _. ⊤) (λ v. fix v ≡ true))
cycle_named m asked fix (tc.MissingTcEdge x) h = absurd h
cycle_named m asked fix (tc.HasCycle x) h = h.1
cycle_named m asked fix tc.Memory h = tt

held_there : (o : Option SharedEntity) → is_some o ≡ true → is_some (option_map shared o) ≡ true
held_there None h = h
held_there (Some n) h = refl

-- If all entities are affected, a cycle of the whole is a cycle at an affected entity.
pub touched_named : {S : Type 0} (m : HashMap EntityUID SharedEntity S) (affected : EntityUID → Bool)
    → ((q : EntityUID) → is_some (entity_at m q) ≡ true → affected q ≡ true) → (asked : Bool) (t : TcError EntityUID)
    → NamesCycleAt asked (λ v. is_some (get same_uid m v)) (graph_of same_uid node_edges m) t
    → NamesCycleAt asked affected (graph_of same_uid node_edges m) t
touched_named m affected all asked (tc.MissingTcEdge x) h = absurd h
touched_named m affected all asked (tc.HasCycle x) h =
    (h.0, all x.vertex (held_there (get same_uid m x.vertex) h.1), h.2)
touched_named m affected all asked tc.Memory h = tt

-- If no duplicate error is possible, the statement holds for duplicates too.
pub named_for : (affected : EntityUID → Bool) (e : EntitiesError)
    → MatchError e (λ _. ⊥) (λ u. IsClosureFault u (λ _ _ _. ⊤) (λ v. affected v ≡ true)) → NamesOneOf affected e
named_for affected e h =
    refusal_cases (λ _. ⊥) (λ u. IsClosureFault u (λ _ _ _. ⊤) (λ v. affected v ≡ true)) (NamesOneOf affected) (λ u n. tt)
    (λ t k. k) tt e h
