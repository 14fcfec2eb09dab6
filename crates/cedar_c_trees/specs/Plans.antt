-- The trees of values and expressions.
use Rattle.std.specs.Prelude.{◌≡◌, ℕ, ◌+◌, List, Option, Some, None}
use Rattle.cedar_ids.specs.Printed.{printed_name}
use Rattle.cedar_ids.specs.TextOf.{IsName}
use Rattle.cedar_ids.specs.Name.{NameParts}
use Rattle.cedar_terms.specs.ExprTree.{ExprTree, val_node, var_node, slot_node, unknown_node, set_node, call_node}
use Rattle.cedar_terms.specs.ExprTree.{not_node, binary_node, is_node, ExprTrees, no_exprs, expr_then}
use Rattle.cedar_terms.specs.LiteralTree.{LiteralTree, bool_literal, long_literal, string_literal, uid_literal}
use Rattle.cedar_terms.specs.ValueTree.{ValueTree, literal_value, set_value, record_value, extension_value}
use Rattle.cedar_terms.specs.ValueTree.{ValueTrees, no_values, value_then, FieldTrees, no_fields, field_then}
use Rattle.cedar_c_trees.specs.Items.{Item, bool_item, long_item, text_item, uid_item, set_item, record_item, call_item}
use Rattle.cedar_c_trees.specs.Items.{var_item, slot_item, unknown_item, not_item, binary_item, is_item}
use Rattle.cedar_c_trees.specs.Items.{Tree, node, Trees, no_trees, tree_then, flat, IsBuiltFrom, BuildsExpr}

-- The item of a literal.
abbrev pub literal_item : LiteralTree → Item
literal_item (bool_literal b) = bool_item b
literal_item (long_literal n) = long_item n
literal_item (string_literal s) = text_item s
literal_item (uid_literal u) = uid_item u

-- The tree of a text.
abbrev pub text_leaf : List ℕ → Tree
text_leaf s = node (text_item s) no_trees

-- The list of one tree.
abbrev pub one_tree : Tree → Trees
one_tree t = tree_then t no_trees

-- The number of values.
abbrev pub values_count : ValueTrees → ℕ
values_count no_values = 0
values_count (value_then v vs) = 1 + values_count vs

-- The number of fields.
abbrev pub fields_count : FieldTrees → ℕ
fields_count no_fields = 0
fields_count (field_then k v fs) = 1 + fields_count fs

-- The number of expressions.
abbrev pub exprs_count : ExprTrees → ℕ
exprs_count no_exprs = 0
exprs_count (expr_then e es) = 1 + exprs_count es

-- The tree of a value. The elements of a set and the pairs of a record are in order, each key before its value.
abbrev mutual
  pub value_plan : ValueTree → Tree
  value_plan (literal_value l) = node (literal_item l) no_trees
  value_plan (set_value vs) = node (set_item (values_count vs)) (values_plan vs)
  value_plan (record_value fs) = node (record_item (fields_count fs)) (fields_plan fs)
  value_plan (extension_value f a) = node (call_item f 1) (one_tree (text_leaf a))

  -- The trees of some values, in order.
  pub values_plan : ValueTrees → Trees
  values_plan no_values = no_trees
  values_plan (value_then v vs) = tree_then (value_plan v) (values_plan vs)

  -- The trees of some pairs, each key before its value.
  pub fields_plan : FieldTrees → Trees
  fields_plan no_fields = no_trees
  fields_plan (field_then k v fs) = tree_then (text_leaf k) (tree_then (value_plan v) (fields_plan fs))

-- The tree of an unknown with a name. Its operand is the name of its type, if it has one.
abbrev pub named_unknown : List ℕ → Option NameParts → Tree
named_unknown name None = node (unknown_item name 0) no_trees
named_unknown name (Some t) = node (unknown_item name 1) (one_tree (text_leaf (printed_name t)))

-- The tree of an expression.
abbrev mutual
  pub expr_plan : ExprTree → Tree
  expr_plan (val_node l) = node (literal_item l) no_trees
  expr_plan (var_node v) = node (var_item v) no_trees
  expr_plan (slot_node s) = node (slot_item s) no_trees
  expr_plan (unknown_node u) = named_unknown u.name u.annotation
  expr_plan (set_node es) = node (set_item (exprs_count es)) (exprs_plan es)
  expr_plan (call_node f es) = node (call_item f (exprs_count es)) (exprs_plan es)
  expr_plan (not_node e) = node not_item (one_tree (expr_plan e))
  expr_plan (binary_node o x y) = node (binary_item o) (tree_then (expr_plan x) (one_tree (expr_plan y)))
  expr_plan (is_node e t) = node (is_item t) (one_tree (expr_plan e))

  -- The trees of some expressions, in order.
  pub exprs_plan : ExprTrees → Trees
  exprs_plan no_exprs = no_trees
  exprs_plan (expr_then e es) = tree_then (expr_plan e) (exprs_plan es)

-- The items of a value.
abbrev pub value_items : ValueTree → List Item
value_items v = flat (value_plan v)

-- The items of an expression.
abbrev pub expr_items : ExprTree → List Item
expr_items e = flat (expr_plan e)

-- Holds if the type, if there is one, is a name.
abbrev pub IsTyped : Option NameParts → Type 0
IsTyped None = Unit {0}
IsTyped (Some t) = IsName t

abbrev mutual
  -- Holds if the types of all unknowns of an expression are names.
  pub HasNames : ExprTree → Type 0
  HasNames (unknown_node u) = IsTyped u.annotation
  HasNames (set_node es) = HaveNames es
  HasNames (call_node f es) = HaveNames es
  HasNames (not_node e) = HasNames e
  HasNames (binary_node o x y) = HasNames x × HasNames y
  HasNames (is_node e t) = HasNames e
  HasNames e = Unit {0}

  -- Holds if the types of all unknowns of some expressions are names.
  pub HaveNames : ExprTrees → Type 0
  HaveNames no_exprs = Unit {0}
  HaveNames (expr_then e es) = HasNames e × HaveNames es

-- Holds if an expression is built from its tree, and no other expression is built from a tree with the same items.
pub record IsReadBack (e : ExprTree) : Type 0 where
  pub planned : IsBuiltFrom BuildsExpr (expr_plan e) e
  pub only : (t : Tree) (d : ExprTree) → flat t ≡ expr_items e → IsBuiltFrom BuildsExpr t d → d ≡ e
