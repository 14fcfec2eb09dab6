-- The keys of expressions. Expressions with different keys are different.
use Rattle.std.specs.Prelude.{Bool, true, false, Option, Some, None}
use Rattle.cedar_terms.specs.Keys.{Key, tip, fork, nat_key, text_key, uid_key, name_key}
use Rattle.cedar_terms.specs.LiteralTree.{LiteralTree, bool_literal, long_literal, string_literal, uid_literal}
use Rattle.cedar_ids.specs.Name.{NameParts}
use Rattle.cedar_terms.specs.SlotTree.{slot_index}
use Rattle.cedar_terms.specs.VarTree.{var_index}
use Rattle.cedar_terms.specs.UnknownParts.{UnknownParts}
use Rattle.cedar_terms.specs.ExprTree.{operator_index, Operator, ExprTree, val_node, var_node, slot_node, unknown_node}
use Rattle.cedar_terms.specs.ExprTree.{set_node, call_node, not_node, binary_node, is_node, ExprTrees, no_exprs}
use Rattle.cedar_terms.specs.ExprTree.{expr_then}
use Rattle.cedar_terms.specs.declared.slot.SlotId.{SlotId}
use Rattle.cedar_terms.specs.declared.var.Var.{Var}

-- The key of a Boolean.
abbrev pub bool_key : Bool → Key
bool_key false = nat_key 0
bool_key true = nat_key 1

-- The key of a literal: the index of its kind, and the key of its content.
abbrev pub literal_key : LiteralTree → Key
literal_key (bool_literal b) = fork (nat_key 0) (bool_key b)
literal_key (long_literal n) = fork (nat_key 1) (tip n)
literal_key (string_literal s) = fork (nat_key 2) (text_key s)
literal_key (uid_literal u) = fork (nat_key 3) (uid_key u)

-- The key of a variable: its index.
abbrev pub var_key : Var → Key
var_key v = nat_key (var_index v)

-- The key of a slot id: its index.
abbrev pub slot_key : SlotId → Key
slot_key s = nat_key (slot_index s)

-- The key of an optional annotation. The key of `None` is less than all others.
abbrev pub annotation_key : Option NameParts → Key
annotation_key None = nat_key 0
annotation_key (Some n) = fork (nat_key 1) (name_key n)

-- The key of an unknown: its name and its annotation.
abbrev pub unknown_key : UnknownParts → Key
unknown_key u = fork (text_key u.name) (annotation_key u.annotation)

-- The key of an operator: its index.
abbrev pub operator_key : Operator → Key
operator_key o = nat_key (operator_index o)

-- The key of an expression: the index of its kind, and the keys of its parts.
abbrev mutual
  pub expr_key : ExprTree → Key
  expr_key (val_node l) = fork (nat_key 0) (literal_key l)
  expr_key (var_node v) = fork (nat_key 1) (var_key v)
  expr_key (slot_node s) = fork (nat_key 2) (slot_key s)
  expr_key (unknown_node u) = fork (nat_key 3) (unknown_key u)
  expr_key (set_node es) = fork (nat_key 4) (exprs_key es)
  expr_key (call_node f es) = fork (nat_key 5) (fork (name_key f) (exprs_key es))
  expr_key (not_node e) = fork (nat_key 6) (expr_key e)
  expr_key (binary_node o x y) = fork (nat_key 7) (fork (operator_key o) (fork (expr_key x) (expr_key y)))
  expr_key (is_node e t) = fork (nat_key 8) (fork (expr_key e) (name_key t))

  -- The key of a list of expressions.
  pub exprs_key : ExprTrees → Key
  exprs_key no_exprs = nat_key 0
  exprs_key (expr_then e es) = fork (expr_key e) (exprs_key es)
