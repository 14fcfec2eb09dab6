-- The growth of drafts, from the last node to the first.
use Rattle.std.specs.Prelude.{◌≡◌, ℕ, pos, List, [], ◌∷◌, ◌++◌, string_bytes}
use Rattle.cedar_c_trees.specs.Items.{Item, Tree, flat}
use Rattle.cedar_c_trees.specs.Plans.{HasNames, expr_plan, text_leaf, value_plan}
use Rattle.cedar_c_trees.specs.Reads.{IsTextAt}
use Rattle.cedar_c_trees.specs.Writes.{AllEncode, WrittenParts}
use Rattle.cedar_c_trees.specs.declared.node.Node.{Node}
use Rattle.cedar_c_trees.specs.declared.pending.Pending.{Pending}
use Rattle.cedar_c_trees.specs.declared.pending.Pending.TheVariants as pendings

-- Holds if one node was written before the others, and bytes were appended.
pub record HasNode (n : Node) (old new : WrittenParts) : Type 0 where
  pub more : List ℕ
  pub bytes : new.bytes ≡ old.bytes ++ more
  pub nodes : new.nodes ≡ n ∷ old.nodes

-- Holds if one node with a text of its own was written before the others.
pub record HasText (kind len : ℕ) (text : List ℕ) (old new : WrittenParts) : Type 0 where
  pub node : Node
  pub has : HasNode node old new
  pub kind_is : node.kind ≡ kind
  pub len_is : node.len ≡ len
  pub number_is : node.number ≡ pos 0
  pub at : IsTextAt new.bytes node.at text

-- Holds if nodes for the items were written before the others, and bytes were appended.
pub record Adds (is : List Item) (old new : WrittenParts) : Type 0 where
  pub more : List ℕ
  pub added : List Node
  pub bytes : new.bytes ≡ old.bytes ++ more
  pub nodes : new.nodes ≡ added ++ old.nodes
  pub notes : AllEncode new.bytes added is

-- The tree of a value, an expression or a text to encode.
abbrev pub pending_tree : Pending → Tree
pending_tree (pendings.Value v) = value_plan v.now
pending_tree (pendings.Expr e) = expr_plan e.now
pending_tree (pendings.Text s) = text_leaf (string_bytes s.now)

-- The items to encode.
abbrev pub pending_items : List Pending → List Item
pending_items [] = []
pending_items (p ∷ ps) = flat (pending_tree p) ++ pending_items ps

-- Holds if the types of the unknowns have names.
abbrev pub IsNamed : Pending → Type 0
IsNamed (pendings.Value v) = Unit {0}
IsNamed (pendings.Expr e) = HasNames e.now
IsNamed (pendings.Text s) = Unit {0}

-- Holds if the types of all unknowns on the stack have names.
abbrev pub AreNamed : List Pending → Type 0
AreNamed [] = Unit {0}
AreNamed (p ∷ ps) = IsNamed p × AreNamed ps

-- Holds if the items were pushed onto the stack. N holds if the unknowns on it have types with names.
pub record Pushes (is : List Item) (N : Type 0) (before after : List Pending) : Type 0 where
  pub items : pending_items after ≡ pending_items before ++ is
  pub named : AreNamed after → AreNamed before × N

-- Holds if the last items of a tree, at least one, were written, and the others were pushed onto the stack.
pub record Writes (t : Tree) (N : Type 0) (old new : WrittenParts) (before after : List Pending) : Type 0 where
  pub first : Item
  pub others : List Item
  pub adds : Adds (first ∷ others) old new
  pub whole : pending_items after ++ first ∷ others ≡ pending_items before ++ flat t
  pub named : AreNamed after → AreNamed before × N
