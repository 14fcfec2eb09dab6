-- Laws of the edit rules. They state the definitions for each of the three modes by name.
use Rattle.std.specs.Prelude.{◌≡◌, ◌↔◌, Bool, true, false}
use Rattle.std.proofs.Common.{subst, sym, inl, inr}
use Rattle.std.proofs.lemmas.Bool.{false≢true}
use Rattle.std.specs.Bool.{OnTrue}
use Rattle.cedar_graph.specs.declared.err.TcError.{TcError}
use Rattle.cedar_ids.specs.declared.entity.EntityUID.{EntityUID}
use Rattle.cedar_entity_maps.specs.Modes.{Also, IsSound, OneOf, ReportsCycle, ReportsUnsound, IfComputing}
use Rattle.cedar_entity_maps.specs.Plain.{EntityMap}
use Rattle.cedar_entity_maps.specs.Affected.{IsAcyclicAt, IsRepaired, IsRepairError, IsRepairOf, IsFinalized}
use Rattle.cedar_entity_maps.specs.Affected.{IsFinalizeError, UnlessRepairing}
use Rattle.cedar_entity_maps.specs.declared.modes.TCComputation.TheVariants as modes

-- P implies P under a condition.
pub where_so : (b : Bool) (P : Type 0) → P → OnTrue b P
where_so true P p = p
where_so false P p = tt

pub where_not : (b : Bool) (P : Type 0) → b ≡ false → OnTrue b P
where_not true P t = absurd (false≢true (sym t))
where_not false P t = tt

pub where_asked : (b : Bool) (P : Type 0) → b ≡ true → OnTrue b P → P
where_asked b P t h = subst (λ x. OnTrue x P) t h

pub where_map : (b : Bool) (P Q : Type 0) → (P → Q) → OnTrue b P → OnTrue b Q
where_map true P Q f h = f h
where_map false P Q f h = tt

pub also : (b : Bool) (P Q : Type 0) → P → OnTrue b Q → Also b P Q
also true P Q p q = (p, q)
also false P Q p q = p

pub also_first : (b : Bool) (P Q : Type 0) → Also b P Q → P
also_first true P Q h = h.0
also_first false P Q h = h

pub one_first : (a b : Bool) (P Q : Type 0) → a ≡ true → P → OneOf a P b Q
one_first true true P Q t p = inl p
one_first true false P Q t p = p
one_first false b P Q t p = absurd (false≢true t)

pub one_second : (a b : Bool) (P Q : Type 0) → b ≡ true → Q → OneOf a P b Q
one_second true true P Q t q = inr q
one_second false true P Q t q = q
one_second a false P Q t q = absurd (false≢true t)

-- A disjunction still holds if another case is added.
pub one_more : (a b : Bool) (P Q R : Type 0) → OneOf a P false R → OneOf a P b Q
one_more true true P Q R h = inl h
one_more true false P Q R h = h
one_more false b P Q R h = absurd h

pub one_cases : (a b : Bool) (P Q R : Type 0) → (P → R) → (Q → R) → OneOf a P b Q → R
one_cases true true P Q R f g (inl p) = f p
one_cases true true P Q R f g (inr q) = g q
one_cases true false P Q R f g p = f p
one_cases false true P Q R f g q = g q
one_cases false false P Q R f g h = absurd h

-- For each mode by its name: the result of finalizing an addition, an overwriting and a removal, and the errors.
module _ (affected : EntityUID → Bool) (D N : EntityMap) (t : TcError EntityUID) where
  pub assumed : (IsFinalized modes.AssumeAlreadyComputed affected D N ↔ (N ≡ D))
      × (IsFinalizeError modes.AssumeAlreadyComputed affected D t ↔ ⊥)
      × (IsRepaired modes.AssumeAlreadyComputed affected D N ↔ (IsRepairOf affected D N))
      × (IsRepairError modes.AssumeAlreadyComputed affected D t ↔ ⊥)
  assumed = ((λ h. h, λ h. h), (λ h. h, λ h. h), (λ h. h, λ h. h), (λ h. h, λ h. h))

  pub enforced : (IsFinalized modes.EnforceAlreadyComputed affected D N ↔ ((N ≡ D) × IsSound N))
      × (IsFinalizeError modes.EnforceAlreadyComputed affected D t ↔ (ReportsUnsound D t))
      × (IsRepaired modes.EnforceAlreadyComputed affected D N ↔ (IsRepairOf affected D N × IsSound N))
      × (IsRepairError modes.EnforceAlreadyComputed affected D t
      ↔ ((M : EntityMap) × IsRepairOf affected D M × ReportsUnsound M t))
  enforced = ((λ h. h, λ h. h), (λ h. h, λ h. h), (λ h. h, λ h. h), (λ h. h, λ h. h))

  pub computed : (IsFinalized modes.ComputeNow affected D N ↔ (IsRepairOf affected D N × IsAcyclicAt affected D))
      × (IsFinalizeError modes.ComputeNow affected D t ↔ (ReportsCycle D t))
      × (IsRepaired modes.ComputeNow affected D N ↔ (IsRepairOf affected D N × IsAcyclicAt affected D))
      × (IsRepairError modes.ComputeNow affected D t ↔ (ReportsCycle D t))
  computed = ((λ h. h, λ h. h), (λ h. h, λ h. h), (λ h. h, λ h. h), (λ h. h, λ h. h))

-- For each mode by its name: whether it computes the closure, and whether added entities are stored without changes.
module _ (P : Type 0) where
  pub where_assumed : (IfComputing modes.AssumeAlreadyComputed P ↔ Unit {0})
      × (UnlessRepairing modes.AssumeAlreadyComputed P ↔ P)
  where_assumed = ((λ h. h, λ h. h), (λ h. h, λ h. h))

  pub where_enforced : (IfComputing modes.EnforceAlreadyComputed P ↔ Unit {0})
      × (UnlessRepairing modes.EnforceAlreadyComputed P ↔ P)
  where_enforced = ((λ h. h, λ h. h), (λ h. h, λ h. h))

  pub where_now : (IfComputing modes.ComputeNow P ↔ P) × (UnlessRepairing modes.ComputeNow P ↔ Unit {0})
  where_now = ((λ h. h, λ h. h), (λ h. h, λ h. h))
