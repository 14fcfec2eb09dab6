-- The printed texts of expressions.
use Rattle.std.specs.Prelude.{ℕ, List, [], ◌++◌, Bool, true, false, ◌&&◌, Option, Some, None, if◌then◌else◌, codes}
use Rattle.cedar_ids.specs.Escape.{escaped, is_ascii}
use Rattle.cedar_ids.specs.Printed.{printed_name}
use Rattle.cedar_terms.specs.SlotTree.{slot_text}
use Rattle.cedar_terms.specs.VarTree.{var_text}
use Rattle.cedar_terms.specs.ValueTexts.{literal_text, is_ascii_literal}
use Rattle.cedar_terms.specs.UnknownParts.{UnknownParts}
use Rattle.cedar_terms.specs.ExprTree.{Operator, and_operator, eq_operator, in_operator, ExprTree, val_node, var_node}
use Rattle.cedar_terms.specs.ExprTree.{slot_node, unknown_node, set_node, call_node, not_node, binary_node, is_node}
use Rattle.cedar_terms.specs.ExprTree.{ExprTrees, no_exprs, expr_then}

-- Whether an expression is an atom, which is written without parentheses as an operand.
abbrev pub is_atom : ExprTree → Bool
is_atom (val_node l) = true
is_atom (var_node v) = true
is_atom (slot_node s) = true
is_atom (unknown_node u) = true
is_atom (set_node es) = true
is_atom (call_node f es) = true
is_atom (not_node e) = false
is_atom (binary_node o x y) = false
is_atom (is_node e t) = false

-- The text of an operand: an atom unchanged, any other expression in parentheses.
abbrev pub operand : Bool → List ℕ → List ℕ
operand atom text = if atom then text else codes "(" ++ (text ++ codes ")")

-- The text of an operator, between spaces.
abbrev pub operator_text : Operator → List ℕ
operator_text and_operator = codes " && "
operator_text eq_operator = codes " == "
operator_text in_operator = codes " in "

-- The text of an unknown. For example, `unknown("x")`.
abbrev pub unknown_text : UnknownParts → List ℕ
unknown_text u = codes "unknown(\"" ++ (escaped u.name ++ codes "\")")

-- The specified output of printing an unknown: its text if the name is ASCII, else unspecified.
abbrev pub unknown_output : UnknownParts → Option (List ℕ)
unknown_output u = if is_ascii u.name then Some (unknown_text u) else None

-- The text of an expression, by its kind.
abbrev mutual
  pub expr_text : ExprTree → List ℕ
  expr_text (val_node l) = literal_text l
  expr_text (var_node v) = var_text v
  expr_text (slot_node s) = slot_text s
  expr_text (unknown_node u) = unknown_text u
  expr_text (set_node es) = codes "[" ++ (exprs_text es ++ codes "]")
  expr_text (call_node f es) = printed_name f ++ (codes "(" ++ (exprs_text es ++ codes ")"))
  expr_text (not_node e) = codes "!" ++ operand (is_atom e) (expr_text e)
  expr_text (binary_node o x y) = operand (is_atom x) (expr_text x)
      ++ (operator_text o ++ operand (is_atom y) (expr_text y))
  expr_text (is_node e t) = operand (is_atom e) (expr_text e) ++ (codes " is " ++ printed_name t)

  -- The texts of the expressions of a list, separated by a comma and a space.
  pub exprs_text : ExprTrees → List ℕ
  exprs_text no_exprs = []
  exprs_text (expr_then e es) = expr_text e ++ more_exprs_text es

  -- The texts of the remaining expressions of a list, with a comma and a space before each.
  pub more_exprs_text : ExprTrees → List ℕ
  more_exprs_text no_exprs = []
  more_exprs_text (expr_then e es) = (codes ", " ++ expr_text e) ++ more_exprs_text es

-- Whether all texts in an expression are ASCII.
abbrev mutual
  pub is_ascii_expr : ExprTree → Bool
  is_ascii_expr (val_node l) = is_ascii_literal l
  is_ascii_expr (var_node v) = true
  is_ascii_expr (slot_node s) = true
  is_ascii_expr (unknown_node u) = is_ascii u.name
  is_ascii_expr (set_node es) = are_ascii_exprs es
  is_ascii_expr (call_node f es) = are_ascii_exprs es
  is_ascii_expr (not_node e) = is_ascii_expr e
  is_ascii_expr (binary_node o x y) = is_ascii_expr x && is_ascii_expr y
  is_ascii_expr (is_node e t) = is_ascii_expr e

  -- Whether all texts in a list of expressions are ASCII.
  pub are_ascii_exprs : ExprTrees → Bool
  are_ascii_exprs no_exprs = true
  are_ascii_exprs (expr_then e es) = is_ascii_expr e && are_ascii_exprs es

-- The specified output of printing an expression: its text if all texts in it are ASCII, else unspecified.
abbrev pub expr_output : ExprTree → Option (List ℕ)
expr_output e = if is_ascii_expr e then Some (expr_text e) else None
