-- The results of `try_validate`.
use Rattle.std.specs.Prelude.{◌≡◌, Option, Some, None, Result, Ok, Err}
use Rattle.cedar_ids.specs.Name.{NameParts}
use Rattle.cedar_terms.specs.declared.err.ExprValidationError.{ExprValidationError}
use Rattle.cedar_terms.specs.declared.err.ExprValidationError.TheVariants as errors

-- Whether a result is right, given the first unknown function. `Ok` requires that there is none. `UnknownFunction`
-- contains the first one. `Memory` implies nothing.
abbrev pub Validates : {T : Type 0} → Result T ExprValidationError → Option NameParts → Type 0
Validates (Ok v) first = first ≡ None
Validates (Err (errors.UnknownFunction f)) first = first ≡ Some f
Validates (Err errors.Memory) first = Unit {0}
