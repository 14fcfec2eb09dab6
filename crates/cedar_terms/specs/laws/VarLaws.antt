-- Laws of the equality and hash of variables.
use Rattle.std.specs.Prelude.{◌≡◌, ℕ, zero, suc, true, refl, nat_eq}
use Rattle.std.proofs.Common.{ap, ◌∙◌, sym}
use Rattle.std.specs.Bool.{Decides}
use Rattle.std.proofs.lemmas.Bool.{eqb-true}
use Rattle.cedar_terms.specs.declared.var.Var.{Var}
use Rattle.cedar_terms.specs.declared.var.Var.TheVariants.{Principal, Action, Resource, Context}
use Rattle.cedar_terms.specs.VarTree.{var_index, same_var, var_hash}
use Rattle.std.specs.Cmp.{IsEquivalence, on_equiv, nat_eq_equiv}

-- The variable with this index.
abbrev pub var_at : ℕ → Var
var_at zero = Principal
var_at (suc zero) = Action
var_at (suc (suc zero)) = Resource
var_at (suc (suc (suc n))) = Context

-- The variable with the index of `v` is `v`.
pub var_at-var_index : (v : Var) → var_at (var_index v) ≡ v
var_at-var_index Principal = refl
var_at-var_index Action = refl
var_at-var_index Resource = refl
var_at-var_index Context = refl

-- Variables with equal indices are equal.
pub var_index-inj : (x y : Var) → var_index x ≡ var_index y → x ≡ y
var_index-inj x y e = sym (var_at-var_index x) ∙ ap var_at e ∙ var_at-var_index y

-- `==` is an equivalence.
pub same_var_equiv : IsEquivalence same_var
same_var_equiv = on_equiv var_index nat_eq_equiv

-- `==` decides whether two variables are identical.
pub same_var_decides : (x y : Var) → Decides (same_var x y) (x ≡ y)
same_var_decides x y = (
  λ e. var_index-inj x y (eqb-true (var_index x) (var_index y) e),
  λ e. ap (λ z. nat_eq (var_index x) (var_index z)) (sym e) ∙ same_var_equiv.refl x,
)

-- Equal variables have equal hashes.
pub var_hash_respects : (x y : Var) → same_var x y ≡ true → var_hash x ≡ var_hash y
var_hash_respects x y e = ap var_hash ((same_var_decides x y).0 e)
