-- The effect of a failed run on the writer.
use Rattle.cedar_store.specs.declared.program.RunError.{RunError}
use Rattle.cedar_store.specs.declared.program.RunError.TheVariants.{Read, Write, Memory}

-- Whether `P` holds after an error that comes before the first write. Nothing is stated about a write error.
abbrev pub Leaves : RunError → Type 0 → Type 0
Leaves Read P = P
Leaves Memory P = P
Leaves Write P = Unit {0}
