-- Consequences of the finalization of an edit.
use Rattle.std.specs.Prelude.{◌≡◌, Bool, true, false, not, ◌&&◌, List, Result, Ok, Err}
use Rattle.std.proofs.Common.{ap, subst, sym, ◌∙◌}
use Rattle.std.specs.Bool.{OnFalse, OnTrue}
use Rattle.std.specs.FinMap as finmap
use Rattle.std.specs.Option.{option_map}
use Rattle.std.specs.Result.{IsErrAnd}
use Rattle.cedar_graph.specs.declared.err.TcError.{TcError}
use Rattle.cedar_ids.specs.declared.entity.EntityUID.{EntityUID}
use Rattle.cedar_entity.specs.View.{unchanged_parts}
use Rattle.cedar_entity.specs.declared.err.EntitiesError.{EntitiesError}
use Rattle.cedar_entity.specs.declared.err.EntitiesError.TheVariants.{Memory}
use Rattle.cedar_entity_maps.specs.Modes.{computes, with_repair, Also, IsSound, OneOf, ReportsCycle, ReportsUnsound}
use Rattle.cedar_entity_maps.specs.Plain.{EntityMap}
use Rattle.cedar_entity_maps.specs.Affected.{is_affected, IsAcyclicAt, IsEnded, IsEndError, IsRepairIf, IsRepairOf}
use Rattle.cedar_entity_maps.specs.Affected.{SomeRepairIf, StaysUnaffected}
use Rattle.cedar_entity_maps.specs.declared.modes.EditRules.{EditRules}
use Rattle.cedar_entity_maps.specs.laws.Ends.{Ends}
use Rattle.cedar_entity_maps.specs.laws.Rows.{also_first, one_cases, where_so}

-- The result is a repair of D, or D.
pub ended_made : (row : EditRules) (affected : EntityUID → Bool) (D N : EntityMap) → IsEnded row affected D N
    → IsRepairIf row.repairs affected D N
ended_made row affected D N h = also_first (row.repairs && row.refuses_cycles) (IsRepairIf row.repairs affected D N)
    (IsAcyclicAt affected D) (also_first row.checks (Also (row.repairs && row.refuses_cycles)
    (IsRepairIf row.repairs affected D N) (IsAcyclicAt affected D)) (IsSound N) h)

-- The result if an allocation failed.
pub ends_nothing : {X : Type 0} (row : EditRules) (affected : EntityUID → Bool) (D N : EntityMap) (r : Result X EntitiesError)
    (e : EntitiesError) → e ≡ Memory → IsErrAnd r (λ x. x ≡ e) → Ends row affected D N r
ends_nothing row affected D N (Ok x) e none h = absurd h
ends_nothing {X} row affected D N (Err x) e none h = subst (λ f. Ends {A = X} row affected D N (Err f)) (sym (h ∙ none))
    (record { ok = tt; err = tt; named = where_so (computes row) _ tt })

-- Entities that are not affected do not change.
pub ended_untouched : (row : EditRules) (A : List EntityUID) (D M N : EntityMap) → StaysUnaffected A D M
    → IsEnded row (is_affected D A) M N → StaysUnaffected A D N
ended_untouched row A D M N h ended = at row.repairs (ended_made row (is_affected D A) M N ended)
  where
    at : (b : Bool) → IsRepairIf b (is_affected D A) M N → StaysUnaffected A D N
    at true s q t = s.alone q t ∙ h q t
    at false s q t = ap (λ (E : EntityMap). finmap.get E q) s ∙ h q t

-- A finalization changes only indirect ancestors.
pub ended_kept : (row : EditRules) (affected : EntityUID → Bool) (D N : EntityMap) → IsEnded row affected D N → (q : EntityUID)
    → option_map unchanged_parts (finmap.get N q) ≡ option_map unchanged_parts (finmap.get D q)
ended_kept row affected D N ended q = at row.repairs (ended_made row affected D N ended)
  where
    at : (b : Bool) → IsRepairIf b affected D N → option_map unchanged_parts (finmap.get N q) ≡ option_map unchanged_parts (finmap.get D q)
    at true s = s.parts q
    at false s = ap (λ (M : EntityMap). option_map unchanged_parts (finmap.get M q)) s

-- A consequence of a repair that reports cycles holds if the edit rules compute the closure.
pub ended_computed : (row : EditRules) (affected : EntityUID → Bool) (D N : EntityMap) (P : Type 0)
    → (IsRepairOf affected D N → IsAcyclicAt affected D → P) → IsEnded row affected D N → OnTrue (computes row) P
ended_computed row affected D N P f = at row.repairs row.refuses_cycles row.checks
  where
    at : (a b c : Bool) → Also c (Also (a && b) (IsRepairIf a affected D N) (IsAcyclicAt affected D)) (IsSound N)
        → OnTrue ((a && b) && not c) P
    at true true true h = tt
    at true true false h = f h.0 h.1
    at true false c h = tt
    at false b c h = tt

-- A consequence of a cycle holds for an error if the edit rules compute the closure.
pub refused_computed : (row : EditRules) (affected : EntityUID → Bool) (D : EntityMap) (t : TcError EntityUID) (P : Type 0)
    → (ReportsCycle D t → P) → IsEndError row affected D t → OnTrue (computes row) P
refused_computed row affected D t P f = at row.repairs row.refuses_cycles row.checks
  where
    at : (a b c : Bool) → OneOf (a && b) (ReportsCycle D t) c (SomeRepairIf a affected D (λ N. ReportsUnsound N t))
        → OnTrue ((a && b) && not c) P
    at true true true h = tt
    at true true false h = f h
    at true false c h = tt
    at false b c h = tt

-- A consequence of an unchanged map holds if nothing is repaired.
pub ended_taken : (row : EditRules) (affected : EntityUID → Bool) (D N : EntityMap) (P : Type 0) → (N ≡ D → P)
    → IsEnded row affected D N → OnFalse row.repairs P
ended_taken row affected D N P f ended = at row.repairs (ended_made row affected D N ended)
  where
    at : (a : Bool) → IsRepairIf a affected D N → OnFalse a P
    at true h = tt
    at false h = f h

-- A repair without a cycle and with a sound result has no error.
pub never_refused : (row : EditRules) (affected : EntityUID → Bool) (D : EntityMap) (t : TcError EntityUID) → (ReportsCycle D t → ⊥)
    → ((N : EntityMap) → IsRepairOf affected D N → ReportsUnsound N t → ⊥) → IsEndError (with_repair row) affected D t → ⊥
never_refused row affected D t f g = one_cases row.refuses_cycles row.checks (ReportsCycle D t)
    (SomeRepairIf true affected D (λ N. ReportsUnsound N t)) ⊥ f (λ s. g s.0 s.1 s.2)
