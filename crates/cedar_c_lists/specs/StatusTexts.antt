-- The status of a call: a value that is written with it, and its text.
use Rattle.std.specs.Prelude.{◌≡◌, ◌≢◌, ◌⊎◌, ℕ, List, [], Result, Ok, Err, codes}
use Rattle.cedar_c_lists.specs.Reasons.{number_of, words_of}
use Rattle.cedar_c_lists.specs.declared.reason.Reason.{Reason}

-- Holds if the status is correct for a result. For `Ok` the new value is the result's value, and otherwise it is the
-- old value.
abbrev pub WritesValue : {X : Type 0} → Result X Reason → ℕ → X → X → Type 0
WritesValue (Ok x) status old new = (status ≡ 0) × (new ≡ x)
WritesValue (Err w) status old new = (status ≡ number_of w) × (new ≡ old)

-- Holds if no reason has this number.
abbrev pub IsNoReason : ℕ → Type 0
IsNoReason n = (w : Reason) → number_of w ≡ n → ⊥

-- Holds if this is the text of a status: `ok` for 0, the text of its reason, or empty if the number is not a status.
abbrev pub IsStatusText : ℕ → List ℕ → Type 0
IsStatusText n text =
    ((n ≡ 0) × (text ≡ codes "ok")) ⊎ (((w : Reason) × (number_of w ≡ n) × (text ≡ words_of w))
    ⊎ ((n ≢ 0) × IsNoReason n × (text ≡ [])))
