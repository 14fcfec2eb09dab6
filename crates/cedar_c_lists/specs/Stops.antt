-- Calls that read their input before they do anything, and the text of the last error.
use Rattle.std.specs.Prelude.{◌≡◌, ℕ, List, Result, Ok, Err}
use Rattle.cedar_c_lists.specs.declared.reason.Reason.{Reason}
use Rattle.cedar_c_lists.specs.declared.reason.Reason.TheVariants.{NoMemory}

-- Holds if the input is invalid for a reason that satisfies `Why`, and nothing has changed.
abbrev pub IsStopped : {A K : Type 0} → (Reason → Type 0) → Result A Reason → K → K → Type 0
IsStopped Why (Ok a) i j = ⊥
IsStopped Why (Err w) i j = Why w × (j ≡ i)

-- Holds if the text of the last error does not change after a successful call or an allocation failure.
abbrev pub KeepsErrorText : {A : Type 0} → Result A Reason → List ℕ → List ℕ → Type 0
KeepsErrorText (Ok a) old new = new ≡ old
KeepsErrorText (Err w) old new = w ≡ NoMemory → new ≡ old
