-- An expression as callers see it. Locations are not part of it.
use Rattle.std.specs.Prelude.{ℕ, List, [], ◌∷◌, ◌+◌}
use Rattle.cedar_ids.specs.Name.{NameParts}
use Rattle.cedar_terms.specs.LiteralTree.{LiteralTree}
use Rattle.cedar_terms.specs.UnknownParts.{UnknownParts}
use Rattle.cedar_terms.specs.declared.slot.SlotId.{SlotId}
use Rattle.cedar_terms.specs.declared.var.Var.{Var}

-- The operator of a node with two operands.
pub data Operator : Type 0 where
  and_operator : Operator
  eq_operator : Operator
  in_operator : Operator

-- The index of an operator.
abbrev pub operator_index : Operator → ℕ
operator_index and_operator = 0
operator_index eq_operator = 1
operator_index in_operator = 2

mutual
  -- An expression. The kinds of nodes are: literal, variable, slot, unknown, set, function call, negation, binary
  -- operator, and type test.
  pub data ExprTree : Type 0 where
    val_node : LiteralTree → ExprTree
    var_node : Var → ExprTree
    slot_node : SlotId → ExprTree
    unknown_node : UnknownParts → ExprTree
    set_node : ExprTrees → ExprTree
    call_node : NameParts → ExprTrees → ExprTree
    not_node : ExprTree → ExprTree
    binary_node : Operator → ExprTree → ExprTree → ExprTree
    is_node : ExprTree → NameParts → ExprTree

  -- A list of expressions.
  pub data ExprTrees : Type 0 where
    no_exprs : ExprTrees
    expr_then : ExprTree → ExprTrees → ExprTrees

-- The conjunction of two expressions.
abbrev pub and_node : ExprTree → ExprTree → ExprTree
and_node x y = binary_node and_operator x y

-- The equality test of two expressions.
abbrev pub eq_node : ExprTree → ExprTree → ExprTree
eq_node x y = binary_node eq_operator x y

-- The test of whether the first operand is in the second.
abbrev pub in_node : ExprTree → ExprTree → ExprTree
in_node x y = binary_node in_operator x y

-- The list of expressions with these elements.
abbrev pub expr_trees : List ExprTree → ExprTrees
expr_trees [] = no_exprs
expr_trees (e ∷ es) = expr_then e (expr_trees es)

-- The number of nodes of an expression.
abbrev mutual
  pub expr_size : ExprTree → ℕ
  expr_size (val_node l) = 1
  expr_size (var_node v) = 1
  expr_size (slot_node s) = 1
  expr_size (unknown_node u) = 1
  expr_size (set_node es) = 1 + exprs_size es
  expr_size (call_node f es) = 1 + exprs_size es
  expr_size (not_node e) = 1 + expr_size e
  expr_size (binary_node o x y) = 1 + (expr_size x + expr_size y)
  expr_size (is_node e t) = 1 + expr_size e

  -- The number of nodes of a list of expressions.
  pub exprs_size : ExprTrees → ℕ
  exprs_size no_exprs = 0
  exprs_size (expr_then e es) = expr_size e + exprs_size es
