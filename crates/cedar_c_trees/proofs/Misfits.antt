-- The reasons why a node is not a literal.
use Rattle.std.proofs.Common.{ℕ, ◌≤◌, List, arith}
use Rattle.std.proofs.Common.{Bool, inl}
use Rattle.cedar_terms.specs.LiteralTree.{LiteralTree, bool_literal, long_literal, string_literal, uid_literal}
use Rattle.cedar_c_lists.specs.declared.reason.Reason.{Reason}
use Rattle.cedar_c_lists.specs.declared.reason.Reason.TheVariants.{NoMemory, BadArgument, NotAUid, NotUtf8}
use Rattle.cedar_c_trees.specs.Items.{Item, bool_item, long_item, text_item, uid_item}
use Rattle.cedar_c_trees.specs.Plans.{literal_item}
use Rattle.cedar_c_trees.specs.Shapes.{Fits}
use Rattle.cedar_c_trees.specs.laws.Stacks.{IsUnmade, IsNoLiteral}
use Rattle.cedar_c_trees.specs.declared.node.Node.{Node}

-- A node with the kind of a literal that is not decoded as a literal.
no_literal : (text : List ℕ) (n : Node) (i : Item) → n.kind ≤ 3 → Fits text n i
    → ((l : LiteralTree) → Fits text n (literal_item l) → ⊥) → ⊥
no_literal text n (bool_item b) k f h = h (bool_literal b) f
no_literal text n (long_item z) k f h = h (long_literal z) f
no_literal text n (text_item s) k f h = h (string_literal s) f
no_literal text n (uid_item u) k f h = h (uid_literal u) f
no_literal text n i k f h = omega (arith, k, f.kind)

pub literal_unmade : (S : Item → List Bool → Type 0) (text : List ℕ) (n : Node) (bs : List Bool) (w : Reason)
    → n.kind ≤ 3 → IsNoLiteral text n w → IsUnmade S text n bs w
literal_unmade S text n bs NoMemory k h = tt
literal_unmade S text n bs BadArgument k h = λ i front under f s e. no_literal text n i k f h
literal_unmade S text n bs NotAUid k h = h
literal_unmade S text n bs NotUtf8 k h = (inl h.0, h.1)
literal_unmade S text n bs w k h = absurd h
