-- Laws of the equality and hash of expressions.
use Rattle.std.specs.Prelude.{◌≡◌, true}
use Rattle.std.proofs.Common.{ap, sym, ◌∙◌}
use Rattle.std.specs.Bool.{Decides}
use Rattle.std.specs.Ordering.{is_eq}
use Rattle.std.specs.Cmp.{IsEquivalence, on_equiv, eq_by_cmp_equiv, Equal-is}
use Rattle.cedar_terms.specs.laws.KeyLaws.{key_cmp-Equal, key_cmp-itself, key_cmp_total}
use Rattle.cedar_terms.specs.Keys.{key_cmp}
use Rattle.cedar_terms.specs.ExprTree.{ExprTree}
use Rattle.cedar_terms.specs.laws.ExprKeyLaws.{expr_key-inj}
use Rattle.cedar_terms.specs.ExprKeys.{expr_key}
use Rattle.cedar_terms.specs.ExprEquality.{expr_hash, same_expr}

-- `==` is an equivalence.
pub same_expr_equiv : IsEquivalence same_expr
same_expr_equiv = on_equiv expr_key (eq_by_cmp_equiv key_cmp_total)

-- `==` decides whether two expressions are identical.
pub same_expr_decides : (x y : ExprTree) → Decides (same_expr x y) (x ≡ y)
same_expr_decides x y = (
  λ e. expr_key-inj x y (key_cmp-Equal (expr_key x) (expr_key y) ((Equal-is (key_cmp (expr_key x) (expr_key y))).0 e)),
  λ e. sym (ap (same_expr x) e) ∙ ap is_eq (key_cmp-itself (expr_key x)),
)

-- Equal expressions have equal hashes.
pub expr_hash_respects : (x y : ExprTree) → same_expr x y ≡ true → expr_hash x ≡ expr_hash y
expr_hash_respects x y e = ap expr_hash ((same_expr_decides x y).0 e)
