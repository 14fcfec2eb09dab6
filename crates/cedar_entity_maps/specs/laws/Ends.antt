-- The result of finalizing an edit by edit rules.
use Rattle.std.specs.Prelude.{◌≡◌, true, false, Bool, Result, OnOk, IfErr}
use Rattle.std.specs.Bool.{OnTrue}
use Rattle.cedar_ids.specs.declared.entity.EntityUID.{EntityUID}
use Rattle.cedar_entity.specs.declared.err.EntitiesError.{EntitiesError}
use Rattle.cedar_entity_maps.specs.Modes.{computes}
use Rattle.cedar_entity_maps.specs.Plain.{EntityMap}
use Rattle.cedar_entity_maps.specs.EditErrors.{MatchError, NamesOneOf}
use Rattle.cedar_entity_maps.specs.Affected.{IsEnded, IsEndError}
use Rattle.cedar_entity_maps.specs.declared.modes.EditRules.{EditRules}

-- Holds for the result of finalizing an edit from D to N. If the edit rules compute the closure, a reported cycle names
-- an affected uid.
pub record Ends {A : Type 0} (row : EditRules) (affected : EntityUID → Bool) (D N : EntityMap) (answer : Result A EntitiesError)
    : Type 0 where
  pub ok : OnOk answer (IsEnded row affected D N)
  pub err : IfErr answer (λ e. MatchError e (λ _. ⊥) (IsEndError row affected D))
  pub named : IfErr answer (λ e. OnTrue (computes row) (NamesOneOf affected e))

-- `Ends` for all sets of affected uids that contain every uid of the map.
abbrev pub EndsWhole : {A : Type 0} → EditRules → (EntityUID → Bool) → EntityMap → EntityMap → Result A EntitiesError → Type 0
EndsWhole row holds D N answer =
    (affected : EntityUID → Bool) → ((q : EntityUID) → holds q ≡ true → affected q ≡ true) → Ends row affected D N answer

-- Edit rules that repair and check nothing afterwards.
abbrev pub repairing : Bool → EditRules
repairing refuses_cycles = record { repairs = true; refuses_cycles = refuses_cycles; checks = false }
