-- Trees as lists: the item of each node comes after the items of its operands.
use Rattle.std.specs.Prelude.{◌≡◌, ℕ, ◌+◌, max, ℤ, List, [], ◌∷◌, ◌++◌, Bool, length, Option, Some, None}
use Rattle.cedar_ids.specs.Name.{NameParts}
use Rattle.cedar_ids.specs.Uid.{UidParts}
use Rattle.cedar_terms.specs.Fields.{IsRecordOf, IsSetOf}
use Rattle.cedar_terms.specs.LiteralTree.{bool_literal, long_literal, string_literal, uid_literal}
use Rattle.cedar_ids.specs.TextOf.{IsNameText}
use Rattle.cedar_terms.specs.ExprTree.{Operator, ExprTree, val_node, var_node, slot_node, unknown_node, set_node}
use Rattle.cedar_terms.specs.ExprTree.{call_node, not_node, binary_node, is_node, expr_trees}
use Rattle.cedar_terms.specs.declared.slot.SlotId.{SlotId}
use Rattle.cedar_terms.specs.declared.var.Var.{Var}
use Rattle.cedar_terms.specs.ValueTree.{ValueTree, literal_value, extension_value}

-- The meaning of a node. A number is the number of elements of a set, of pairs of a record, of arguments of a call, or
-- of operands of an unknown. An unknown has at most one operand, its type.
pub data Item : Type 0 where
  bool_item : Bool → Item
  long_item : ℤ → Item
  text_item : List ℕ → Item
  uid_item : UidParts → Item
  set_item : ℕ → Item
  record_item : ℕ → Item
  call_item : NameParts → ℕ → Item
  var_item : Var → Item
  slot_item : SlotId → Item
  unknown_item : List ℕ → ℕ → Item
  not_item : Item
  binary_item : Operator → Item
  is_item : NameParts → Item

mutual
  -- A node and its operands. The order and repetitions of operands are not restricted.
  pub data Tree : Type 0 where
    node : Item → Trees → Tree

  -- A list of trees.
  pub data Trees : Type 0 where
    no_trees : Trees
    tree_then : Tree → Trees → Trees

-- The items of a tree: the items of the operands, followed by the item of the node.
abbrev mutual
  pub flat : Tree → List Item
  flat (node i ts) = flats ts ++ i ∷ []

  -- The items of some trees, one after another.
  pub flats : Trees → List Item
  flats no_trees = []
  flats (tree_then t ts) = flat t ++ flats ts

-- The levels of a tree: one more than the deepest operand.
abbrev mutual
  pub tree_levels : Tree → ℕ
  tree_levels (node i ts) = 1 + most_levels ts

  -- The levels of the deepest of some trees, or 0 if there are none.
  pub most_levels : Trees → ℕ
  most_levels no_trees = 0
  most_levels (tree_then t ts) = max (tree_levels t) (most_levels ts)

-- The maximum number of levels in the tree of a value or an expression: 1,000.
abbrev pub level_limit : ℕ
level_limit = 1000

-- The keys and values of pairs, one after another. A key is a text.
abbrev pub pairs_listed : List (List ℕ × ValueTree) → List ValueTree
pairs_listed [] = []
pairs_listed (p ∷ ps) = literal_value (string_literal p.0) ∷ p.1 ∷ pairs_listed ps

-- Holds if v is built from the tree, where C states what a node builds from the values of its operands.
abbrev mutual
  pub IsBuiltFrom : {V : Type 0} → (Item → List V → V → Type 0) → Tree → V → Type 0
  IsBuiltFrom {V = V} C (node i ts) v = (vs : List V) × AreBuiltFrom C ts vs × C i vs v

  -- Holds if the values are built from the trees, one from each.
  pub AreBuiltFrom : {V : Type 0} → (Item → List V → V → Type 0) → Trees → List V → Type 0
  AreBuiltFrom C no_trees [] = Unit {0}
  AreBuiltFrom C no_trees (v ∷ vs) = ⊥
  AreBuiltFrom C (tree_then t ts) [] = ⊥
  AreBuiltFrom C (tree_then t ts) (v ∷ vs) = IsBuiltFrom C t v × AreBuiltFrom C ts vs

-- Holds if v is the value of an item with operands `vs`.
abbrev pub Combines : Item → List ValueTree → ValueTree → Type 0
Combines (bool_item b) vs v = (vs ≡ []) × (v ≡ literal_value (bool_literal b))
Combines (long_item n) vs v = (vs ≡ []) × (v ≡ literal_value (long_literal n))
Combines (text_item s) vs v = (vs ≡ []) × (v ≡ literal_value (string_literal s))
Combines (uid_item u) vs v = (vs ≡ []) × (v ≡ literal_value (uid_literal u))
Combines (set_item n) vs v = (length vs ≡ n) × IsSetOf vs v
Combines (record_item n) vs v =
    (ps : List (List ℕ × ValueTree)) × (vs ≡ pairs_listed ps) × (length ps ≡ n) × IsRecordOf ps v
Combines (call_item f n) vs v =
    (a : List ℕ) × (n ≡ 1) × (vs ≡ literal_value (string_literal a) ∷ []) × (v ≡ extension_value f a)
Combines i vs v = ⊥

-- Holds if this is the type of an unknown: none without an operand, or the type named by the text of its only operand.
abbrev pub IsTypeOfOperand : Option NameParts → ℕ → List ExprTree → Type 0
IsTypeOfOperand None n es = (n ≡ 0) × (es ≡ [])
IsTypeOfOperand (Some t) n es =
    (text : List ℕ) × (n ≡ 1) × (es ≡ val_node (string_literal text) ∷ []) × IsNameText t text

-- Holds if e is the expression of an item with operands `es`.
abbrev pub BuildsExpr : Item → List ExprTree → ExprTree → Type 0
BuildsExpr (bool_item b) es e = (es ≡ []) × (e ≡ val_node (bool_literal b))
BuildsExpr (long_item n) es e = (es ≡ []) × (e ≡ val_node (long_literal n))
BuildsExpr (text_item s) es e = (es ≡ []) × (e ≡ val_node (string_literal s))
BuildsExpr (uid_item u) es e = (es ≡ []) × (e ≡ val_node (uid_literal u))
BuildsExpr (set_item n) es e = (length es ≡ n) × (e ≡ set_node (expr_trees es))
BuildsExpr (record_item n) es e = ⊥
BuildsExpr (call_item f n) es e = (length es ≡ n) × (e ≡ call_node f (expr_trees es))
BuildsExpr (var_item v) es e = (es ≡ []) × (e ≡ var_node v)
BuildsExpr (slot_item s) es e = (es ≡ []) × (e ≡ slot_node s)
BuildsExpr (unknown_item name n) es e = (t : Option NameParts) × IsTypeOfOperand t n es
    × (e ≡ unknown_node (record { name = name; annotation = t }))
BuildsExpr not_item es e = (x : ExprTree) × (es ≡ x ∷ []) × (e ≡ not_node x)
BuildsExpr (binary_item o) es e = (x : ExprTree) × (y : ExprTree) × (es ≡ x ∷ y ∷ []) × (e ≡ binary_node o x y)
BuildsExpr (is_item t) es e = (x : ExprTree) × (es ≡ x ∷ []) × (e ≡ is_node x t)
