-- Laws of the equality and hash of partial values.
use Rattle.std.specs.Prelude.{◌≡◌, true}
use Rattle.std.proofs.Common.{ap}
use Rattle.std.specs.Bool.{Decides}
use Rattle.std.specs.Cmp.{IsEquivalence, decided}
use Rattle.cedar_terms.specs.laws.ValueLaws.{same_value_decides}
use Rattle.cedar_terms.specs.laws.ExprLaws.{same_expr_decides}
use Rattle.cedar_terms.specs.declared.partial_value.PartialValue.{PartialValue}
use Rattle.cedar_terms.specs.declared.partial_value.PartialValue.TheVariants as partials
use Rattle.cedar_terms.specs.PartialViews.{partial_hash, same_partial}

-- `==` decides whether two partial values are identical.
pub same_partial_decides : (x y : PartialValue) → Decides (same_partial x y) (x ≡ y)
same_partial_decides (partials.Value v) (partials.Value w) =
    (λ e. ap partials.Value ((same_value_decides v w).0 e), λ e. (same_value_decides v w).1 (cc))
same_partial_decides (partials.Value v) (partials.Residual e) = (λ h. absurd (cc), λ h. absurd (cc))
same_partial_decides (partials.Residual d) (partials.Value w) = (λ h. absurd (cc), λ h. absurd (cc))
same_partial_decides (partials.Residual d) (partials.Residual e) =
    (λ h. ap partials.Residual ((same_expr_decides d e).0 h), λ h. (same_expr_decides d e).1 (cc))

-- `==` is an equivalence.
pub same_partial_equiv : IsEquivalence same_partial
same_partial_equiv = decided same_partial same_partial_decides

-- Equal partial values have equal hashes.
pub partial_hash_respects : (x y : PartialValue) → same_partial x y ≡ true → partial_hash x ≡ partial_hash y
partial_hash_respects x y e = ap partial_hash ((same_partial_decides x y).0 e)
