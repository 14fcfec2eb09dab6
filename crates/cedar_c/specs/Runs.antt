-- The effect of a whole run in one call.
use Rattle.std.specs.Prelude.{◌≡◌, ℕ, List}
use Rattle.cedar_store.specs.Output.{IsOutput, Written}
use Rattle.cedar_c.specs.Copying.{CopiesOut}

-- Holds if the call has written the output of the input, as much as fits, the length of the whole output, and the exit
-- status.
abbrev pub Runs : List ℕ → List ℕ → List ℕ → ℕ → ℕ → Type 0
Runs input old new told status = (w : Written) × IsOutput input w × CopiesOut w.bytes 0 old told new
    × (status ≡ w.status)
