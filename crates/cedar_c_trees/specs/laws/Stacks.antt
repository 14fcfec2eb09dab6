-- The effect of a node on a stack, or the reason why there is none.
use Rattle.std.specs.Prelude.{◌≡◌, ◌⊎◌, ℕ, ◌<◌, ℤ, List, ◌∷◌, [], ◌++◌, Bool, true, false, map, length, suc, zero}
use Rattle.cedar_ids.specs.Reads.{IsTextOfNone}
use Rattle.cedar_ids.specs.TextOf.{IsNameText}
use Rattle.cedar_terms.specs.ExprTree.{ExprTree, val_node}
use Rattle.cedar_terms.specs.LiteralTree.{LiteralTree, string_literal}
use Rattle.cedar_terms.specs.TypeViews.{entity_name}
use Rattle.cedar_terms.specs.declared.static_type.StaticType.{StaticType}
use Rattle.cedar_terms.specs.ValueTree.{ValueTree, literal_value}
use Rattle.cedar_c_lists.specs.Texts.{IsInside}
use Rattle.cedar_c_lists.specs.declared.layout.Span.{Span}
use Rattle.cedar_c_lists.specs.declared.reason.Reason.{Reason}
use Rattle.cedar_c_lists.specs.declared.reason.Reason.TheVariants.{NoMemory, BadArgument, NotAUid, NotUtf8, NotAName}
use Rattle.cedar_c_trees.specs.Items.{Item}
use Rattle.cedar_c_trees.specs.Plans.{literal_item}
use Rattle.cedar_c_trees.specs.Refusals.{IsNoUidAt, IsNotUtf8At, IsNoNameAt, HasText}
use Rattle.cedar_c_trees.specs.Reads.{Decodes}
use Rattle.cedar_c_trees.specs.Shapes.{Fits}
use Rattle.cedar_c_trees.specs.declared.node.Node.{Node}

-- Holds if the node pops its operands off the stack and pushes v.
pub record Makes {V : Type 0} (C : Item → List V → V → Type 0) (text : List ℕ) (n : Node) (old new : List V)
    (v : V) : Type 0 where
  pub item : Item
  pub below : List V
  pub says : Decodes text n item
  pub stack : old ≡ new ++ below
  pub combines : C item below v

-- Whether a value is a text.
abbrev pub is_text_value : ValueTree → Bool
is_text_value (literal_value (string_literal s)) = true
is_text_value v = false

abbrev pub is_text_expr : ExprTree → Bool
is_text_expr (val_node (string_literal s)) = true
is_text_expr e = false

-- Holds if w is the reason why there is no text in a part of a text.
abbrev pub IsNoTextAt : List ℕ → Span → Reason → Type 0
IsNoTextAt text at NoMemory = Unit {0}
IsNoTextAt text at BadArgument = IsInside text at → ⊥
IsNoTextAt text at NotUtf8 = IsNotUtf8At text at
IsNoTextAt text at w = ⊥

-- Holds if w is the reason why a text is not a name.
abbrev pub IsNoName : List ℕ → Reason → Type 0
IsNoName text NoMemory = Unit {0}
IsNoName text NotAName = IsTextOfNone IsNameText text
IsNoName text w = ⊥

-- Holds if w is the reason why there is no name in a part of a text.
abbrev pub IsNotNamedAt : List ℕ → Span → Reason → Type 0
IsNotNamedAt text at NotAName = IsNoNameAt text at
IsNotNamedAt text at w = IsNoTextAt text at w

-- Holds if the number has no meaning; the reason is `BadArgument`.
abbrev pub IsNoNumber : {A : Type 0} → (A → ℤ) → ℤ → Reason → Type 0
IsNoNumber {A = A} number_of z BadArgument = (a : A) → z ≡ number_of a → ⊥
IsNoNumber number_of z w = ⊥

-- Holds if w is the reason why a node is not a literal.
abbrev pub IsNoLiteral : List ℕ → Node → Reason → Type 0
IsNoLiteral text n NoMemory = Unit {0}
IsNoLiteral text n BadArgument = (l : LiteralTree) → Fits text n (literal_item l) → ⊥
IsNoLiteral text n NotAUid = (n.kind ≡ 3) × IsNoUidAt text n.at
IsNoLiteral text n NotUtf8 = (n.kind ≡ 2) × IsNotUtf8At text n.at
IsNoLiteral text n w = ⊥

-- Holds if the node fits no operands on top of the stack, by S. The Booleans state which elements of the stack are
-- texts.
abbrev pub Misfits : (Item → List Bool → Type 0) → List ℕ → Node → List Bool → Type 0
Misfits S text n bs = (i : Item) (front under : List Bool) → Fits text n i → S i under → bs ≡ front ++ under → ⊥

-- Holds if w is the reason why a node builds nothing. The Booleans state which elements of the stack are texts.
abbrev pub IsUnmade : (Item → List Bool → Type 0) → List ℕ → Node → List Bool → Reason → Type 0
IsUnmade S text n bs NoMemory = Unit {0}
IsUnmade S text n bs BadArgument = Misfits S text n bs
IsUnmade S text n bs NotAUid = (n.kind ≡ 3) × IsNoUidAt text n.at
IsUnmade S text n bs NotUtf8 = HasText n.kind × IsNotUtf8At text n.at
IsUnmade S text n bs NotAName = ((n.kind ≡ 6) ⊎ (n.kind ≡ 14)) × IsNoNameAt text n.at
IsUnmade S text n bs w = ⊥

-- Holds if the expression is a text, and this is the type with that name.
abbrev pub IsTypeIn : ExprTree → StaticType → Type 0
IsTypeIn e t = (s : List ℕ) × (e ≡ val_node (string_literal s)) × IsNameText (entity_name t) s

-- Holds if w is the reason why an expression is not the name of a type as a text.
abbrev pub IsNoTypeIn : ExprTree → Reason → Type 0
IsNoTypeIn e NoMemory = Unit {0}
IsNoTypeIn e BadArgument = is_text_expr e ≡ false
IsNoTypeIn e NotAName = (s : List ℕ) × (e ≡ val_node (string_literal s)) × IsTextOfNone IsNameText s
IsNoTypeIn e w = ⊥

-- Holds if w is the reason why there is no name of a type on top of a stack.
abbrev pub IsNoTypeOn : List ExprTree → Reason → Type 0
IsNoTypeOn es NoMemory = Unit {0}
IsNoTypeOn es BadArgument = (less : List Bool) → map is_text_expr es ≡ less ++ true ∷ [] → ⊥
IsNoTypeOn es NotAName =
    (less : List ExprTree) × (s : List ℕ) × (es ≡ less ++ val_node (string_literal s) ∷ []) × IsTextOfNone IsNameText s
IsNoTypeOn es w = ⊥

-- Holds if the text on top of the stack, the type of an unknown, is not a name.
pub record IsNoType (n : Node) (es : List ExprTree) : Type 0 where
  pub kind : n.kind ≡ 9
  pub len : n.len ≡ 1
  pub less : List ExprTree
  pub text : List ℕ
  pub stack : es ≡ less ++ val_node (string_literal text) ∷ []
  pub none : IsTextOfNone IsNameText text

-- Holds if w is the reason why a node of an expression builds nothing.
abbrev pub IsUnjoined : (Item → List Bool → Type 0) → List ℕ → Node → List ExprTree → Reason → Type 0
IsUnjoined S text n es w = IsUnmade S text n (map is_text_expr es) w ⊎ ((w ≡ NotAName) × IsNoType n es)

-- Holds if w is the reason why there are fewer than k elements on a stack.
abbrev pub AreTooFew : {V : Type 0} → List V → ℕ → Reason → Type 0
AreTooFew vs k NoMemory = Unit {0}
AreTooFew vs k BadArgument = length vs < k
AreTooFew vs k w = ⊥

-- Holds if there is not exactly one element on the stack.
abbrev pub IsNotOne : {V : Type 0} → List V → Reason → Type 0
IsNotOne {V = V} vs BadArgument = (v : V) → vs ≡ v ∷ [] → ⊥
IsNotOne vs w = ⊥

-- Holds if it is not a text; the reason is `BadArgument`.
abbrev pub IsNoText : Bool → Reason → Type 0
IsNoText b BadArgument = b ≡ false
IsNoText b w = ⊥

-- Holds if there is no text on top of the stack.
abbrev pub IsNoTextOn : List Bool → Reason → Type 0
IsNoTextOn bs BadArgument = (less : List Bool) → bs ≡ less ++ true ∷ [] → ⊥
IsNoTextOn bs w = ⊥

-- Holds if there are that many pairs of a key and a value on top of the stack.
abbrev pub ArePairsOn : ℕ → List Bool → Type 0
ArePairsOn zero bs = Unit {0}
ArePairsOn (suc k) bs = (less : List Bool) × (b : Bool) × (bs ≡ less ++ true ∷ b ∷ []) × ArePairsOn k less

-- Holds if w is the reason why that many pairs are not popped.
abbrev pub AreNoPairs : ℕ → List Bool → Reason → Type 0
AreNoPairs k bs NoMemory = Unit {0}
AreNoPairs k bs BadArgument = ArePairsOn k bs → ⊥
AreNoPairs k bs w = ⊥
