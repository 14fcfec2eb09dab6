-- The printed texts of partial values.
use Rattle.std.specs.Prelude.{ℕ, List, Option}
use Rattle.cedar_terms.specs.ValueTexts.{value_output}
use Rattle.cedar_terms.specs.ExprTexts.{expr_output}
use Rattle.cedar_terms.specs.declared.partial_value.PartialValue.{PartialValue}
use Rattle.cedar_terms.specs.declared.partial_value.PartialValue.TheVariants as partials

-- The specified output of printing a partial value: the output of its value or of its expression.
abbrev pub partial_output : PartialValue → Option (List ℕ)
partial_output (partials.Value v) = value_output v
partial_output (partials.Residual e) = expr_output e
