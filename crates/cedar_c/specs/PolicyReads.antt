-- The results of the calls that read the policy set of a handle, by the effects of the calls in `cedar_c_sets` on its
-- contents.
use Rattle.std.specs.Prelude.{◌≡◌, ℕ, Bool, Option, Some, None, Result}
use Rattle.cedar_policy_maps.specs.PolicySets.{SetParts}
use Rattle.cedar_c_lists.specs.Reasons.{WritesBool}
use Rattle.cedar_c_lists.specs.StatusTexts.{WritesValue}
use Rattle.cedar_c_lists.specs.declared.reason.Reason.{Reason}
use Rattle.cedar_c.specs.Statuses.{closed}
use Rattle.cedar_c.specs.PolicyCalls.{HandleState}
use Rattle.cedar_c.specs.declared.policies_handle.Inner.{Inner}

-- Holds for a call that writes a number about the policy set of a handle. On a closed handle the status is `closed`.
-- After an error nothing is written.
abbrev pub CountsHandle : (SetParts → Result ℕ Reason → Type 0) → Option Inner → ℕ → ℕ → ℕ → Type 0
CountsHandle P None n old new = (n ≡ closed) × (new ≡ old)
CountsHandle P (Some i) n old new = (r : Result ℕ Reason) × WritesValue r n old new × P i.kept.set r

-- Holds for a call with the effect P on the contents of a handle, which also writes a Boolean. On a closed handle the
-- status is `closed`. After an error no Boolean is written.
abbrev pub ChangesAndReports : (Result Bool Reason → HandleState → HandleState → Type 0) → Option Inner → ℕ → Option Inner → Bool → Bool
    → Type 0
ChangesAndReports P None n new before told = (n ≡ closed) × (new ≡ None) × (told ≡ before)
ChangesAndReports P (Some i) n new before told = (r : Result Bool Reason) × WritesBool r n before told
    × ((j : Inner) × (new ≡ Some j) × P r i.kept j.kept)

-- Holds for a call with the effect P on the contents of a handle, which also writes a number. On a closed handle the
-- status is `closed`. After an error no number is written.
abbrev pub ChangesAndCounts : (Result ℕ Reason → HandleState → HandleState → Type 0) → Option Inner → ℕ → Option Inner → ℕ → ℕ
    → Type 0
ChangesAndCounts P None n new before told = (n ≡ closed) × (new ≡ None) × (told ≡ before)
ChangesAndCounts P (Some i) n new before told = (r : Result ℕ Reason) × WritesValue r n before told
    × ((j : Inner) × (new ≡ Some j) × P r i.kept j.kept)
