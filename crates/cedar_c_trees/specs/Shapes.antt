-- The possible trees of nodes, whatever their texts are.
use Rattle.std.specs.Prelude.{◌≡◌, ◌⊎◌, ℕ, ◌+◌, pos, List, [], ◌∷◌, Bool, true, false, length}
use Rattle.std.specs.List.{AllZip}
use Rattle.cedar_c_lists.specs.Texts.{IsInside}
use Rattle.cedar_terms.specs.ExprTree.{operator_index}
use Rattle.cedar_terms.specs.SlotTree.{slot_index}
use Rattle.cedar_terms.specs.VarTree.{var_index}
use Rattle.cedar_c_trees.specs.Items.{Item, bool_item, long_item, text_item, uid_item, set_item, record_item, call_item}
use Rattle.cedar_c_trees.specs.Items.{var_item, slot_item, unknown_item, not_item, binary_item, is_item}
use Rattle.cedar_c_trees.specs.Items.{Tree, node, Trees, no_trees, tree_then}
use Rattle.cedar_c_trees.specs.Reads.{truth_number}
use Rattle.cedar_c_trees.specs.declared.node.Node.{Node}

-- The kind of the nodes of an item.
abbrev pub kind_number : Item → ℕ
kind_number (bool_item b) = 0
kind_number (long_item z) = 1
kind_number (text_item s) = 2
kind_number (uid_item u) = 3
kind_number (set_item k) = 4
kind_number (record_item k) = 5
kind_number (call_item f k) = 6
kind_number (var_item v) = 7
kind_number (slot_item s) = 8
kind_number (unknown_item s k) = 9
kind_number not_item = 10
kind_number (binary_item o) = 11 + operator_index o
kind_number (is_item t) = 14

-- Holds if the number, the length and the span of a node are valid for the item, whatever the text at the span is.
abbrev pub IsFilled : List ℕ → Node → Item → Type 0
IsFilled text n (bool_item b) = n.number ≡ truth_number b
IsFilled text n (long_item z) = n.number ≡ z
IsFilled text n (text_item s) = IsInside text n.at
IsFilled text n (uid_item u) = IsInside text n.at
IsFilled text n (set_item k) = n.len ≡ k
IsFilled text n (record_item k) = n.len ≡ k
IsFilled text n (call_item f k) = (n.len ≡ k) × IsInside text n.at
IsFilled text n (var_item v) = n.number ≡ pos (var_index v)
IsFilled text n (slot_item s) = n.number ≡ pos (slot_index s)
IsFilled text n (unknown_item s k) = (n.len ≡ k) × IsInside text n.at
IsFilled text n not_item = Unit {0}
IsFilled text n (binary_item o) = Unit {0}
IsFilled text n (is_item t) = IsInside text n.at

-- Holds if a node has the shape of an item, whatever its text is.
pub record Fits (text : List ℕ) (n : Node) (i : Item) : Type 0 where
  pub kind : n.kind ≡ kind_number i
  pub filled : IsFilled text n i

-- Holds if the nodes have the shapes of the items, one for each.
abbrev pub AllFit : List ℕ → List Node → List Item → Type 0
AllFit text ns is = AllZip (Fits text) ns is

-- Whether an item is a text.
abbrev pub is_text : Item → Bool
is_text (text_item s) = true
is_text i = false

-- The trees that are texts.
abbrev pub are_texts : Trees → List Bool
are_texts no_trees = []
are_texts (tree_then (node i us) ts) = is_text i ∷ are_texts ts

-- Texts for keys, alternating with the given values.
abbrev pub keyed : List Bool → List Bool
keyed [] = []
keyed (b ∷ bs) = true ∷ b ∷ keyed bs

-- Holds if an item may have these operands in a value. The Booleans state which operands are texts.
abbrev pub IsAllowedInValue : Item → List Bool → Type 0
IsAllowedInValue (bool_item b) under = under ≡ []
IsAllowedInValue (long_item z) under = under ≡ []
IsAllowedInValue (text_item s) under = under ≡ []
IsAllowedInValue (uid_item u) under = under ≡ []
IsAllowedInValue (set_item k) under = length under ≡ k
IsAllowedInValue (record_item k) under = (bs : List Bool) × (length bs ≡ k) × (under ≡ keyed bs)
IsAllowedInValue (call_item f k) under = (k ≡ 1) × (under ≡ true ∷ [])
IsAllowedInValue i under = ⊥

-- Holds if an item may have these operands in an expression. The Booleans state which operands are texts.
abbrev pub IsAllowedInExpr : Item → List Bool → Type 0
IsAllowedInExpr (bool_item b) under = under ≡ []
IsAllowedInExpr (long_item z) under = under ≡ []
IsAllowedInExpr (text_item s) under = under ≡ []
IsAllowedInExpr (uid_item u) under = under ≡ []
IsAllowedInExpr (set_item k) under = length under ≡ k
IsAllowedInExpr (record_item k) under = ⊥
IsAllowedInExpr (call_item f k) under = length under ≡ k
IsAllowedInExpr (var_item v) under = under ≡ []
IsAllowedInExpr (slot_item s) under = under ≡ []
IsAllowedInExpr (unknown_item s k) under = ((k ≡ 0) × (under ≡ [])) ⊎ ((k ≡ 1) × (under ≡ true ∷ []))
IsAllowedInExpr not_item under = length under ≡ 1
IsAllowedInExpr (binary_item o) under = length under ≡ 2
IsAllowedInExpr (is_item t) under = length under ≡ 1

-- Holds if each item of a tree may have its operands, by S.
abbrev mutual
  pub IsPlan : (Item → List Bool → Type 0) → Tree → Type 0
  IsPlan S (node i ts) = S i (are_texts ts) × ArePlans S ts

  -- Holds if each item of some trees may have its operands, by S.
  pub ArePlans : (Item → List Bool → Type 0) → Trees → Type 0
  ArePlans S no_trees = Unit {0}
  ArePlans S (tree_then t ts) = IsPlan S t × ArePlans S ts
