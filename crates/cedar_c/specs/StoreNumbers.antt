-- The effects of the calls by numbers of uids, by the effects of the calls in `cedar_c_stores` on the contents of a
-- handle.
use Rattle.std.specs.Prelude.{◌≡◌, ℕ, Bool, Option, Some, None, Result}
use Rattle.cedar_c_lists.specs.Reasons.{WritesBool}
use Rattle.cedar_c_lists.specs.StatusTexts.{WritesValue}
use Rattle.cedar_c_lists.specs.declared.reason.Reason.{Reason}
use Rattle.cedar_c.specs.Statuses.{closed}
use Rattle.cedar_c.specs.StoreCalls.{HandleState}
use Rattle.cedar_c.specs.declared.store_handle.Inner.{Inner}

-- Holds for a call with the effect P on the contents of a handle, which also writes a number. On a closed handle the
-- status is `closed`. After an error no number is written.
abbrev pub WritesNumber : (Result ℕ Reason → HandleState → HandleState → Type 0) → Option Inner → ℕ → Option Inner → ℕ → ℕ → Type 0
WritesNumber P None n new was is = (n ≡ closed) × (new ≡ None) × (is ≡ was)
WritesNumber P (Some i) n new was is = (r : Result ℕ Reason) × WritesValue r n was is
    × ((j : Inner) × (new ≡ Some j) × P r i.kept j.kept)

-- Holds for a call that writes a Boolean about the contents of a handle. On a closed handle the status is `closed`.
-- After an error nothing is written.
abbrev pub ReadsBoolOfState : (HandleState → Result Bool Reason → Type 0) → Option Inner → ℕ → Bool → Bool → Type 0
ReadsBoolOfState P None n old new = (n ≡ closed) × (new ≡ old)
ReadsBoolOfState P (Some i) n old new = (r : Result Bool Reason) × WritesBool r n old new × P i.kept r
