-- The status of a check of the text of a uid.
use Rattle.std.specs.Prelude.{◌≡◌, ℕ, List, Result}
use Rattle.cedar_c_lists.specs.Reasons.{status_of}
use Rattle.cedar_c_lists.specs.Texts.{ChecksUid}
use Rattle.cedar_c_lists.specs.declared.reason.Reason.{Reason}

-- Holds if n is the status of checking a text: 0 if it is the text of a uid, and otherwise the number of the reason why
-- it cannot be parsed.
abbrev pub Checks : List ℕ → ℕ → Type 0
Checks text n = (r : Result (Unit {0}) Reason) × (n ≡ status_of r) × ChecksUid r text
