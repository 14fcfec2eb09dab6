-- The nodes of values and expressions, and the bytes of their texts.
use Rattle.std.specs.Prelude.{◌≡◌, ℕ, pos, List, [], ◌∷◌, ◌++◌, IsTrue}
use Rattle.std.specs.List.{AllByRecursion, AllZip}
use Rattle.cedar_ids.specs.Escape.{is_ascii}
use Rattle.cedar_c_lists.specs.Texts.{IsInside}
use Rattle.cedar_c_lists.specs.declared.layout.Span.{Span}
use Rattle.cedar_terms.specs.ExprTree.{ExprTree}
use Rattle.cedar_terms.specs.declared.partial_value.PartialValue.{PartialValue}
use Rattle.cedar_terms.specs.declared.partial_value.PartialValue.TheVariants as partials
use Rattle.cedar_c_trees.specs.Items.{Item, bool_item, long_item, text_item, uid_item, set_item, record_item, call_item}
use Rattle.cedar_c_trees.specs.Items.{var_item, slot_item, unknown_item, not_item, binary_item, is_item}
use Rattle.cedar_c_trees.specs.Plans.{HasNames, expr_items, value_items}
use Rattle.cedar_c_trees.specs.Reads.{Decodes}
use Rattle.cedar_c_trees.specs.declared.node.Node.{Node}

-- The bytes of texts, and nodes over them.
pub record WrittenParts : Type 0 where
  pub bytes : List ℕ
  pub nodes : List Node

-- Holds if the item is not a uid, or is a uid with an ASCII eid.
abbrev pub IsAsciiItem : Item → Type 0
IsAsciiItem (uid_item u) = IsTrue (is_ascii u.eid)
IsAsciiItem i = Unit {0}

-- Holds if all uids among the items have ASCII eids.
abbrev pub AreAscii : List Item → Type 0
AreAscii is = AllByRecursion IsAsciiItem is

-- Holds if the node encodes the item. For a uid with a non-ASCII eid, the node is a uid with a text within the bytes.
abbrev pub Encodes : List ℕ → Node → Item → Type 0
Encodes text n (uid_item u) =
    (n.kind ≡ 3) × IsInside text n.at × (IsAsciiItem (uid_item u) → Decodes text n (uid_item u))
Encodes text n i = Decodes text n i

-- The empty span.
abbrev pub nowhere : Span
nowhere = record { start = 0; end = 0 }

-- Holds if the fields that a node's kind does not use are 0.
abbrev pub HasZeroUnused : Node → Item → Type 0
HasZeroUnused n (bool_item b) = (n.len ≡ 0) × (n.at ≡ nowhere)
HasZeroUnused n (long_item z) = (n.len ≡ 0) × (n.at ≡ nowhere)
HasZeroUnused n (text_item s) = (n.len ≡ 0) × (n.number ≡ pos 0)
HasZeroUnused n (uid_item u) = (n.len ≡ 0) × (n.number ≡ pos 0)
HasZeroUnused n (set_item k) = (n.at ≡ nowhere) × (n.number ≡ pos 0)
HasZeroUnused n (record_item k) = (n.at ≡ nowhere) × (n.number ≡ pos 0)
HasZeroUnused n (call_item f k) = n.number ≡ pos 0
HasZeroUnused n (var_item v) = (n.len ≡ 0) × (n.at ≡ nowhere)
HasZeroUnused n (slot_item s) = (n.len ≡ 0) × (n.at ≡ nowhere)
HasZeroUnused n (unknown_item s k) = n.number ≡ pos 0
HasZeroUnused n not_item = (n.len ≡ 0) × (n.at ≡ nowhere) × (n.number ≡ pos 0)
HasZeroUnused n (binary_item o) = (n.len ≡ 0) × (n.at ≡ nowhere) × (n.number ≡ pos 0)
HasZeroUnused n (is_item t) = (n.len ≡ 0) × (n.number ≡ pos 0)

-- Holds if a node encodes an item, and the fields that its kind does not use are 0.
pub record IsNodeFor (text : List ℕ) (n : Node) (i : Item) : Type 0 where
  pub notes : Encodes text n i
  pub blank : HasZeroUnused n i

-- Holds if the nodes encode the items, one for each.
abbrev pub AllEncode : List ℕ → List Node → List Item → Type 0
AllEncode text ns is = AllZip (IsNodeFor text) ns is

-- Holds if the items are encoded.
abbrev pub IsWrittenAs : List Item → WrittenParts → Type 0
IsWrittenAs is w = AllEncode w.bytes w.nodes is

-- Holds if an expression is encoded, and the types of its unknowns are names.
abbrev pub IsExprWritten : ExprTree → WrittenParts → Type 0
IsExprWritten e w = IsWrittenAs (expr_items e) w × HasNames e

-- Holds if the nodes encode an expression, followed by the mark of a residual. The other fields of the mark are 0.
pub record IsMarked (e : ExprTree) (w : WrittenParts) : Type 0 where
  pub nodes : List Node
  pub mark : Node
  pub marked : w.nodes ≡ nodes ++ mark ∷ []
  pub kind : mark.kind ≡ 15
  pub len : mark.len ≡ 1
  pub blank : (mark.at ≡ nowhere) × (mark.number ≡ pos 0)
  pub written : IsExprWritten e (record { bytes = w.bytes; nodes = nodes })

-- Holds if a partial value is encoded: a value without a mark, and a residual with the mark.
abbrev pub IsPartialWritten : PartialValue → WrittenParts → Type 0
IsPartialWritten (partials.Value v) w = IsWrittenAs (value_items v) w
IsPartialWritten (partials.Residual e) w = IsMarked e w
