-- Expressions can be decoded from their keys, so expressions with equal keys are equal.
use Rattle.std.specs.Prelude.{◌≡◌, ℕ, zero, suc, pos, Option, Some, None, refl}
use Rattle.std.proofs.Common.{ap}
use Rattle.cedar_ids.specs.Name.{NameParts}
use Rattle.cedar_terms.specs.laws.KeyLaws.{left_at, right_at, read_back, nat_at, text_at, text_at-text_key}
use Rattle.cedar_terms.specs.Keys.{Key, tip, fork}
use Rattle.cedar_terms.specs.laws.NameKeyLaws.{name_at, name_at-name_key}
use Rattle.cedar_terms.specs.laws.LiteralLaws.{literal_at, literal_at-literal_key}
use Rattle.cedar_terms.specs.ExprKeys.{annotation_key, expr_key, exprs_key, unknown_key}
use Rattle.cedar_terms.specs.laws.VarLaws.{var_at, var_at-var_index}
use Rattle.cedar_terms.specs.UnknownParts.{UnknownParts}
use Rattle.cedar_terms.specs.ExprTree.{operator_index, Operator, and_operator, eq_operator, in_operator, ExprTree}
use Rattle.cedar_terms.specs.ExprTree.{val_node, var_node, slot_node, unknown_node, set_node, call_node, not_node}
use Rattle.cedar_terms.specs.ExprTree.{binary_node, is_node, ExprTrees, no_exprs, expr_then}
use Rattle.cedar_terms.specs.laws.SlotIdLaws.{slot_at, slot_at-slot_index}

-- The annotation with this key.
abbrev pub annotation_at : Key → Option NameParts
annotation_at (tip n) = None
annotation_at (fork k l) = Some (name_at l)

annotation_at-annotation_key : (x : Option NameParts) → annotation_at (annotation_key x) ≡ x
annotation_at-annotation_key None = refl
annotation_at-annotation_key (Some n) = ap Some (name_at-name_key n)

-- The unknown with this key.
abbrev pub unknown_at : Key → UnknownParts
unknown_at k = record { name = text_at (left_at k); annotation = annotation_at (right_at k) }

unknown_at-unknown_key : (u : UnknownParts) → unknown_at (unknown_key u) ≡ u
unknown_at-unknown_key u = λ i. record {
  name = text_at-text_key u.name i;
  annotation =
      annotation_at-annotation_key u.annotation i;
}

-- The operator with this index.
abbrev pub operator_at : ℕ → Operator
operator_at zero = and_operator
operator_at (suc zero) = eq_operator
operator_at (suc (suc n)) = in_operator

operator_at-operator_index : (o : Operator) → operator_at (operator_index o) ≡ o
operator_at-operator_index and_operator = refl
operator_at-operator_index eq_operator = refl
operator_at-operator_index in_operator = refl

-- The expression with this key.
abbrev mutual
  pub expr_at : Key → ExprTree
  expr_at (fork (tip (pos zero)) k) = val_node (literal_at k)
  expr_at (fork (tip (pos (suc zero))) k) = var_node (var_at (nat_at k))
  expr_at (fork (tip (pos (suc (suc zero)))) k) = slot_node (slot_at (nat_at k))
  expr_at (fork (tip (pos (suc (suc (suc zero))))) k) = unknown_node (unknown_at k)
  expr_at (fork (tip (pos (suc (suc (suc (suc zero)))))) k) = set_node (exprs_at k)
  expr_at (fork (tip (pos (suc (suc (suc (suc (suc zero))))))) (fork f k)) = call_node (name_at f) (exprs_at k)
  expr_at (fork (tip (pos (suc (suc (suc (suc (suc (suc zero)))))))) k) = not_node (expr_at k)
  expr_at (fork (tip (pos (suc (suc (suc (suc (suc (suc (suc zero))))))))) (fork o (fork k l))) =
      binary_node (operator_at (nat_at o)) (expr_at k) (expr_at l)
  expr_at (fork (tip (pos (suc (suc (suc (suc (suc (suc (suc (suc n)))))))))) (fork k t)) =
      is_node (expr_at k) (name_at t)
  expr_at k = set_node no_exprs

  pub exprs_at : Key → ExprTrees
  exprs_at (fork k l) = expr_then (expr_at k) (exprs_at l)
  exprs_at k = no_exprs

-- Decoding the key of an expression gives the expression.
mutual
  pub expr_at-expr_key : (x : ExprTree) → expr_at (expr_key x) ≡ x
  expr_at-expr_key (val_node l) = ap val_node (literal_at-literal_key l)
  expr_at-expr_key (var_node v) = ap var_node (var_at-var_index v)
  expr_at-expr_key (slot_node s) = ap slot_node (slot_at-slot_index s)
  expr_at-expr_key (unknown_node u) = ap unknown_node (unknown_at-unknown_key u)
  expr_at-expr_key (set_node es) = ap set_node (exprs_at-exprs_key es)
  expr_at-expr_key (call_node f es) = λ i. call_node (name_at-name_key f i) (exprs_at-exprs_key es i)
  expr_at-expr_key (not_node e) = ap not_node (expr_at-expr_key e)
  expr_at-expr_key (binary_node o x y) = λ i. binary_node (operator_at-operator_index o i) (expr_at-expr_key x i)
      (expr_at-expr_key y i)
  expr_at-expr_key (is_node e t) = λ i. is_node (expr_at-expr_key e i) (name_at-name_key t i)

  pub exprs_at-exprs_key : (x : ExprTrees) → exprs_at (exprs_key x) ≡ x
  exprs_at-exprs_key no_exprs = refl
  exprs_at-exprs_key (expr_then e es) = λ i. expr_then (expr_at-expr_key e i) (exprs_at-exprs_key es i)

-- Expressions with equal keys are equal.
pub expr_key-inj : (x y : ExprTree) → expr_key x ≡ expr_key y → x ≡ y
expr_key-inj x y h = read_back expr_key expr_at expr_at-expr_key x y h
