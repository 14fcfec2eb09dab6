-- The equality and the hash of expressions.
use Rattle.std.specs.Prelude.{ℕ, List, ◌++◌, Bool}
use Rattle.std.specs.Hash as fed
use Rattle.std.specs.Ordering.{eq_by_cmp, on}
use Rattle.cedar_ids.specs.Name.{name_hash_input}
use Rattle.cedar_terms.specs.Keys.{key_cmp}
use Rattle.cedar_terms.specs.SlotTree.{slot_hash}
use Rattle.cedar_terms.specs.VarTree.{var_hash}
use Rattle.cedar_terms.specs.UnknownParts.{unknown_hash}
use Rattle.cedar_terms.specs.ValueHash.{literal_hash}
use Rattle.cedar_terms.specs.ExprTree.{Operator, operator_index, ExprTree, val_node, var_node, slot_node, unknown_node}
use Rattle.cedar_terms.specs.ExprTree.{set_node, call_node, not_node, binary_node, is_node, ExprTrees, no_exprs}
use Rattle.cedar_terms.specs.ExprTree.{expr_then}
use Rattle.cedar_terms.specs.ExprKeys.{expr_key, exprs_key}

-- The result of `==` on two expressions: whether their keys are equal. By the law `same_expr_decides`, this is true
-- only of identical expressions.
abbrev pub same_expr : ExprTree → ExprTree → Bool
same_expr = on expr_key (eq_by_cmp key_cmp)

-- The result of `==` on two lists of expressions: whether their keys are equal.
abbrev pub same_exprs : ExprTrees → ExprTrees → Bool
same_exprs = on exprs_key (eq_by_cmp key_cmp)

-- The input that an operator feeds to a hasher: its index.
abbrev pub operator_hash : Operator → List (List ℕ)
operator_hash o = fed.u8 (operator_index o)

-- The input that an expression feeds to a hasher: the index of its kind, then its content.
abbrev mutual
  pub expr_hash : ExprTree → List (List ℕ)
  expr_hash (val_node l) = fed.u8 0 ++ literal_hash l
  expr_hash (var_node v) = fed.u8 1 ++ var_hash v
  expr_hash (slot_node s) = fed.u8 2 ++ slot_hash s
  expr_hash (unknown_node u) = fed.u8 3 ++ unknown_hash u
  expr_hash (set_node es) = fed.u8 4 ++ exprs_hash es
  expr_hash (call_node f es) = fed.u8 5 ++ (name_hash_input f ++ exprs_hash es)
  expr_hash (not_node e) = fed.u8 6 ++ expr_hash e
  expr_hash (binary_node o x y) = fed.u8 7 ++ (operator_hash o ++ (expr_hash x ++ expr_hash y))
  expr_hash (is_node e t) = fed.u8 8 ++ (expr_hash e ++ name_hash_input t)

  -- The input that a list of expressions feeds to a hasher: the expressions in order, then an end mark.
  pub exprs_hash : ExprTrees → List (List ℕ)
  exprs_hash no_exprs = fed.u8 9
  exprs_hash (expr_then e es) = expr_hash e ++ exprs_hash es
