-- The items of nodes over a text, and the values and expressions of nodes.
use Rattle.std.specs.Prelude.{◌≡◌, ℕ, ◌+◌, ◌≤◌, ℤ, pos, List, Bool, true, false}
use Rattle.std.specs.List.{AllZip}
use Rattle.std.specs.Str.{IsUtf8}
use Rattle.cedar_ids.specs.Name.{NameParts}
use Rattle.cedar_ids.specs.TextOf.{IsNameText}
use Rattle.cedar_ids.specs.UidOf.{uid_parts}
use Rattle.cedar_ids.specs.declared.entity.EntityUID.{EntityUID}
use Rattle.cedar_c_lists.specs.Answers.{part}
use Rattle.cedar_c_lists.specs.Texts.{IsInside, IsReadAt}
use Rattle.cedar_c_lists.specs.declared.layout.Span.{Span}
use Rattle.cedar_terms.specs.ExprTree.{operator_index}
use Rattle.cedar_terms.specs.SlotTree.{slot_index}
use Rattle.cedar_terms.specs.VarTree.{var_index}
use Rattle.cedar_c_trees.specs.Items.{Item, bool_item, long_item, text_item, uid_item, set_item, record_item}
use Rattle.cedar_c_trees.specs.Items.{call_item, var_item, slot_item, unknown_item, not_item, binary_item, is_item, Tree, flat, IsBuiltFrom}
use Rattle.cedar_c_trees.specs.Items.{level_limit, tree_levels}
use Rattle.cedar_c_trees.specs.declared.node.Node.{Node}

-- The number of a Boolean.
abbrev pub truth_number : Bool → ℤ
truth_number true = pos 1
truth_number false = pos 0

-- Holds if s is the UTF-8 text in a part of a text.
abbrev pub IsTextAt : List ℕ → Span → List ℕ → Type 0
IsTextAt text at s = IsInside text at × IsUtf8 (part text at) × (s ≡ part text at)

-- Holds if n is the name in a part of a text.
abbrev pub IsNameAt : List ℕ → Span → NameParts → Type 0
IsNameAt text at n = IsInside text at × IsNameText n (part text at)

-- Holds if u is parsed from a part of a text.
abbrev pub IsUidAt : List ℕ → Span → EntityUID → Type 0
IsUidAt text at u = IsReadAt text u at

-- Holds if a node over a text means the item.
abbrev pub Decodes : List ℕ → Node → Item → Type 0
Decodes text n (bool_item b) = (n.kind ≡ 0) × (n.number ≡ truth_number b)
Decodes text n (long_item z) = (n.kind ≡ 1) × (n.number ≡ z)
Decodes text n (text_item s) = (n.kind ≡ 2) × IsTextAt text n.at s
Decodes text n (uid_item u) = (n.kind ≡ 3) × ((e : EntityUID) × IsReadAt text e n.at × (uid_parts e ≡ u))
Decodes text n (set_item k) = (n.kind ≡ 4) × (n.len ≡ k)
Decodes text n (record_item k) = (n.kind ≡ 5) × (n.len ≡ k)
Decodes text n (call_item f k) = (n.kind ≡ 6) × (n.len ≡ k) × IsNameAt text n.at f
Decodes text n (var_item v) = (n.kind ≡ 7) × (n.number ≡ pos (var_index v))
Decodes text n (slot_item s) = (n.kind ≡ 8) × (n.number ≡ pos (slot_index s))
Decodes text n (unknown_item s k) = (n.kind ≡ 9) × (n.len ≡ k) × IsTextAt text n.at s
Decodes text n not_item = n.kind ≡ 10
Decodes text n (binary_item o) = n.kind ≡ 11 + operator_index o
Decodes text n (is_item t) = (n.kind ≡ 14) × IsNameAt text n.at t

-- Holds if the nodes mean the items, one for each.
abbrev pub AllDecode : List ℕ → List Node → List Item → Type 0
AllDecode text ns is = AllZip (Decodes text) ns is

-- Holds if the nodes encode a tree of at most 1,000 levels, and v is its value.
pub record IsReadAs {V : Type 0} (C : Item → List V → V → Type 0) (text : List ℕ) (ns : List Node) (v : V) : Type 0 where
  pub tree : Tree
  pub says : AllDecode text ns (flat tree)
  pub levels : tree_levels tree ≤ level_limit
  pub value : IsBuiltFrom C tree v
