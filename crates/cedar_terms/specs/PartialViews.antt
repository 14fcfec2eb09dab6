-- The equality and hash of partial values.
use Rattle.std.specs.Prelude.{ℕ, List, Bool, false, ◌++◌}
use Rattle.std.specs.Hash as fed
use Rattle.cedar_terms.specs.ValueTree.{same_value}
use Rattle.cedar_terms.specs.ValueHash.{value_hash}
use Rattle.cedar_terms.specs.ExprEquality.{same_expr, expr_hash}
use Rattle.cedar_terms.specs.declared.partial_value.PartialValue.{PartialValue}
use Rattle.cedar_terms.specs.declared.partial_value.PartialValue.TheVariants as partials

-- The result of `==`: whether both are equal values or both are equal expressions.
abbrev pub same_partial : PartialValue → PartialValue → Bool
same_partial (partials.Value v) (partials.Value w) = same_value v w
same_partial (partials.Residual d) (partials.Residual e) = same_expr d e
same_partial x y = false

-- The input that a partial value feeds to a hasher.
abbrev pub partial_hash : PartialValue → List (List ℕ)
partial_hash (partials.Value v) = fed.u8 0 ++ value_hash v
partial_hash (partials.Residual e) = fed.u8 1 ++ expr_hash e
