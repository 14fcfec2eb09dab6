-- The reasons why nodes over a text are not decoded.
use Rattle.std.specs.Prelude.{◌≡◌, ◌⊎◌, ℕ, ◌+◌, ◌≤◌, List, Bool, Some, slice_get}
use Rattle.std.specs.Str.{IsUtf8}
use Rattle.cedar_ids.specs.Reads.{IsTextOfNone}
use Rattle.cedar_ids.specs.TextOf.{IsNameText}
use Rattle.cedar_c_lists.specs.Answers.{part}
use Rattle.cedar_c_lists.specs.Texts.{IsInside, IsNoUid}
use Rattle.cedar_c_lists.specs.declared.layout.Span.{Span}
use Rattle.cedar_c_lists.specs.declared.reason.Reason.{Reason}
use Rattle.cedar_c_lists.specs.declared.reason.Reason.TheVariants.{NoMemory, BadArgument, NotAUid, NotUtf8}
use Rattle.cedar_c_lists.specs.declared.reason.Reason.TheVariants.{NotAName, TooDeep}
use Rattle.cedar_c_trees.specs.Items.{Item, Tree, flat, level_limit, tree_levels}
use Rattle.cedar_c_trees.specs.Shapes.{AllFit, IsPlan}
use Rattle.cedar_c_trees.specs.declared.node.Node.{Node}

-- Holds if the span is within the text, and the part is not the text of a uid with an ASCII eid.
abbrev pub IsNoUidAt : List ℕ → Span → Type 0
IsNoUidAt text at = IsInside text at × IsNoUid (part text at)

-- Holds if the span is within the text, and the part is not UTF-8.
abbrev pub IsNotUtf8At : List ℕ → Span → Type 0
IsNotUtf8At text at = IsInside text at × (IsUtf8 (part text at) → ⊥)

-- Holds if the span is within the text, and the part is not a name.
abbrev pub IsNoNameAt : List ℕ → Span → Type 0
IsNoNameAt text at = IsInside text at × IsTextOfNone IsNameText (part text at)

-- Holds if nodes of this kind have a UTF-8 text: texts, calls, unknowns and tests of a type.
abbrev pub HasText : ℕ → Type 0
HasText kind = (kind ≡ 2) ⊎ ((kind ≡ 6) ⊎ ((kind ≡ 9) ⊎ (kind ≡ 14)))

-- Holds if the node at index k has a name: it is a call, a test of a type, or a text that is the type of an unknown.
abbrev pub HasName : List Node → ℕ → Node → Type 0
HasName ns k n =
    (n.kind ≡ 6) ⊎ ((n.kind ≡ 14)
    ⊎ ((n.kind ≡ 2) × ((m : Node) × (slice_get ns (k + 1) ≡ Some m) × (m.kind ≡ 9) × (m.len ≡ 1))))

-- Holds if w is the reason why the text of the node at index k is invalid.
abbrev pub IsWrongAt : List ℕ → List Node → ℕ → Node → Reason → Type 0
IsWrongAt text ns k n NotAUid = (n.kind ≡ 3) × IsNoUidAt text n.at
IsWrongAt text ns k n NotUtf8 = HasText n.kind × IsNotUtf8At text n.at
IsWrongAt text ns k n NotAName = HasName ns k n × IsNoNameAt text n.at
IsWrongAt text ns k n w = ⊥

-- Holds if the nodes encode a tree of at most 1,000 levels, with items only where S allows them.
pub record IsPlanned (S : Item → List Bool → Type 0) (text : List ℕ) (ns : List Node) : Type 0 where
  pub tree : Tree
  pub plan : IsPlan S tree
  pub fits : AllFit text ns (flat tree)
  pub levels : tree_levels tree ≤ level_limit

-- Holds if w is a reason why nodes are not read as a tree, with items only where S allows them: an allocation failed,
-- the nodes encode no such tree, none of at most 1,000 levels, or the text of a node is wrong.
abbrev pub IsRefused : (Item → List Bool → Type 0) → List ℕ → List Node → Reason → Type 0
IsRefused S text ns NoMemory = Unit {0}
IsRefused S text ns BadArgument = (t : Tree) → IsPlan S t → AllFit text ns (flat t) → ⊥
IsRefused S text ns TooDeep = IsPlanned S text ns → ⊥
IsRefused S text ns w = (k : ℕ) × (n : Node) × (slice_get ns k ≡ Some n) × IsWrongAt text ns k n w
