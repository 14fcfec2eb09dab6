-- The levels of nodes, computed from the first to the last.
use Rattle.std.specs.Prelude.{◌≡◌, ℕ, suc, ◌+◌, ◌<◌, ◌≤◌, max, List, [], ◌∷◌, ◌++◌, length, cond, ◌==◌, ◌||◌, nat_le, ◌&&◌}
use Rattle.cedar_c_lists.specs.declared.reason.Reason.{Reason}
use Rattle.cedar_c_lists.specs.declared.reason.Reason.TheVariants.{NoMemory, BadArgument, TooDeep}
use Rattle.cedar_c_trees.specs.Items.{Item, set_item, record_item, call_item, unknown_item, not_item, binary_item}
use Rattle.cedar_c_trees.specs.Items.{is_item, Tree, node, Trees, no_trees, tree_then, flat, level_limit, tree_levels}
use Rattle.cedar_c_trees.specs.Shapes.{AllFit}
use Rattle.cedar_c_trees.specs.declared.node.Node.{Node}

-- The number of operands of an item.
abbrev pub arity : Item → ℕ
arity (set_item n) = n
arity (record_item n) = n + n
arity (call_item f n) = n
arity (unknown_item s n) = n
arity not_item = 1
arity (binary_item o) = 2
arity (is_item t) = 1
arity i = 0

-- The number of trees.
abbrev pub count : Trees → ℕ
count no_trees = 0
count (tree_then t ts) = suc (count ts)

-- Holds if each node of a tree has as many operands as its item needs.
abbrev mutual
  pub IsFull : Tree → Type 0
  IsFull (node i ts) = (count ts ≡ arity i) × AreFull ts

  pub AreFull : Trees → Type 0
  AreFull no_trees = Unit {0}
  AreFull (tree_then t ts) = IsFull t × AreFull ts

-- The number of operands of a node, by its kind and length.
abbrev pub below_kind : ℕ → ℕ → ℕ
below_kind kind len =
    cond (kind == 4 || kind == 6 || kind == 9) len
    (cond (kind == 5) (len + len)
    (cond (kind == 10 || kind == 14) 1 (cond (nat_le 11 kind && nat_le kind 13) 2 0)))

-- The number of operands of a node.
abbrev pub below : Node → ℕ
below n = below_kind n.kind n.len

-- The greatest of the numbers, or 0 if there are none.
abbrev pub most : List ℕ → ℕ
most [] = 0
most (x ∷ xs) = max x (most xs)

-- Holds if the levels of the operands are popped off the stack, and the node has these levels.
pub record IsRaised (n : Node) (old new : List ℕ) (levels : ℕ) : Type 0 where
  pub under : List ℕ
  pub stack : old ≡ new ++ under
  pub count : length under ≡ below n
  pub levels_are : levels ≡ 1 + most under
  pub few : levels ≤ level_limit

-- Holds if w is the reason why a node has no valid levels: there are too few operands on the stack, or they have too
-- many levels.
abbrev pub IsNotRaised : Node → List ℕ → Reason → Type 0
IsNotRaised n old BadArgument = length old < below n
IsNotRaised n old TooDeep =
    (front under : List ℕ) → old ≡ front ++ under → length under ≡ below n → level_limit ≤ most under
IsNotRaised n old w = ⊥

-- Holds if each complete tree of the nodes has at most 1,000 levels.
abbrev pub HaveFew : List Node → Type 0
HaveFew ns = (text : List ℕ) (t : Tree) → IsFull t → AllFit text ns (flat t) → tree_levels t ≤ level_limit

-- Holds if w is a reason why nodes are not read, before any value is built: they encode no complete tree, or none of at
-- most 1,000 levels.
abbrev pub HaveMany : List Node → Reason → Type 0
HaveMany ns NoMemory = Unit {0}
HaveMany ns BadArgument = (text : List ℕ) (t : Tree) → IsFull t → AllFit text ns (flat t) → ⊥
HaveMany ns TooDeep =
    (text : List ℕ) (t : Tree) → IsFull t → AllFit text ns (flat t) → tree_levels t ≤ level_limit → ⊥
HaveMany ns w = ⊥
