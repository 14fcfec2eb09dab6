-- Copying of the text of a status.
use Rattle.std.specs.Prelude.{ℕ, List}
use Rattle.cedar_c_lists.specs.StatusTexts.{IsStatusText}
use Rattle.cedar_c.specs.Copying.{CopiesOut}

-- Holds for a call that copies the text of a status and returns its length.
abbrev pub CopiesStatus : ℕ → List ℕ → ℕ → List ℕ → Type 0
CopiesStatus status old told new = (t : List ℕ) × IsStatusText status t × CopiesOut t 0 old told new
