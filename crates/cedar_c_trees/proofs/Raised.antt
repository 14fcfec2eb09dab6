-- The levels of nodes, computed from the first to the last.
use Rattle.std.proofs.Common.{◌≡◌, ◌∙◌, ap, sym, refl, subst, ℕ, ◌+◌, ◌<◌, ◌≤◌, max, suc, length, List, [], ◌∷◌, ◌++◌, arith}
use Rattle.std.proofs.Common.{drop, take}
use Rattle.std.proofs.Math.ListN.{get_or}
use Rattle.std.proofs.lemmas.List.{length-append, drop_more, drop_all, take_at, drop_at, take_more}
use Rattle.cedar_terms.specs.ExprTree.{and_operator, eq_operator, in_operator}
use Rattle.cedar_c_lists.specs.declared.reason.Reason.{Reason}
use Rattle.cedar_c_lists.specs.declared.reason.Reason.TheVariants.{BadArgument, TooDeep}
use Rattle.cedar_c_trees.specs.Items.{Item, bool_item, long_item, text_item, uid_item, set_item, record_item, call_item}
use Rattle.cedar_c_trees.specs.Items.{var_item, slot_item, unknown_item, not_item, binary_item, is_item}
use Rattle.cedar_c_trees.specs.Items.{Tree, node, Trees, no_trees, tree_then, flat, tree_levels, most_levels}
use Rattle.cedar_c_trees.specs.Shapes.{Fits, AllFit}
use Rattle.cedar_c_trees.specs.laws.Levels.{arity, count, IsFull, AreFull, below, below_kind, most, IsRaised, IsNotRaised}
use Rattle.cedar_c_trees.specs.laws.Levels.{HaveFew, HaveMany}
use Rattle.cedar_c_trees.specs.Items.{level_limit}
use Rattle.cedar_c_trees.specs.declared.node.Node.{Node}
use Rattle.cedar_c_trees.proofs.Leads.{shape, shapes, IsShaped, AreShaped, Leads, leads_from_nothing}

-- A node has as many operands as its item.
pub below_fits : (text : List ℕ) (n : Node) (i : Item) → Fits text n i → below n ≡ arity i
below_fits text n (bool_item b) f = ap (λ (k : ℕ). below_kind k n.len) f.kind
below_fits text n (long_item z) f = ap (λ (k : ℕ). below_kind k n.len) f.kind
below_fits text n (text_item s) f = ap (λ (k : ℕ). below_kind k n.len) f.kind
below_fits text n (uid_item u) f = ap (λ (k : ℕ). below_kind k n.len) f.kind
below_fits text n (set_item k) f = ap (λ (k : ℕ). below_kind k n.len) f.kind ∙ f.filled
below_fits text n (record_item k) f =
    ap (λ (k : ℕ). below_kind k n.len) f.kind ∙ ap (λ (j : ℕ). j + j) f.filled
below_fits text n (call_item g k) f = ap (λ (k : ℕ). below_kind k n.len) f.kind ∙ f.filled.0
below_fits text n (var_item v) f = ap (λ (k : ℕ). below_kind k n.len) f.kind
below_fits text n (slot_item s) f = ap (λ (k : ℕ). below_kind k n.len) f.kind
below_fits text n (unknown_item s k) f = ap (λ (k : ℕ). below_kind k n.len) f.kind ∙ f.filled.0
below_fits text n not_item f = ap (λ (k : ℕ). below_kind k n.len) f.kind
below_fits text n (binary_item and_operator) f = ap (λ (k : ℕ). below_kind k n.len) f.kind
below_fits text n (binary_item eq_operator) f = ap (λ (k : ℕ). below_kind k n.len) f.kind
below_fits text n (binary_item in_operator) f = ap (λ (k : ℕ). below_kind k n.len) f.kind
below_fits text n (is_item t) f = ap (λ (k : ℕ). below_kind k n.len) f.kind

-- Two splits of a list with equal lengths are equal.
pub cut_same : {X : Type 0} (a b c d : List X) → a ++ b ≡ c ++ d → length b ≡ length d → (a ≡ c) × (b ≡ d)
cut_same a b c d e l =
    let n : length a ≡ length c = omega (arith, length-append a b, length-append c d, ap length e) in (
      sym (take_at a b (length a) refl) ∙ ap (take (length a)) e ∙ take_at c d (length a) (sym n),
      sym (drop_at a b (length a) refl) ∙ ap (drop (length a)) e ∙ drop_at c d (length a) (sym n),
    )

-- Holds if there are as many operands as the item has.
abbrev pub HasArity : {X : Type 0} → Item → List X → Type 0
HasArity i under = length under ≡ arity i

-- The levels of a node with operands.
abbrev pub above : Item → List ℕ → ℕ
above i under = 1 + most under

pub length_shapes : {X : Type 0} (m : Item → List X → X) (ts : Trees) → length (shapes m ts) ≡ count ts
length_shapes m no_trees = refl
length_shapes m (tree_then t ts) = ap suc (length_shapes m ts)

mutual
  full_shaped : (t : Tree) → IsFull t → IsShaped HasArity above t
  full_shaped (node i ts) h = (length_shapes above ts ∙ h.0, all_shaped ts h.1)

  all_shaped : (ts : Trees) → AreFull ts → AreShaped HasArity above ts
  all_shaped no_trees h = tt
  all_shaped (tree_then t ts) h = (full_shaped t h.0, all_shaped ts h.1)

mutual
  levels_are : (t : Tree) → shape above t ≡ tree_levels t
  levels_are (node i ts) = ap (λ (n : ℕ). 1 + n) (most_are ts)

  most_are : (ts : Trees) → most (shapes above ts) ≡ most_levels ts
  most_are no_trees = refl
  most_are (tree_then t ts) = λ k. max (levels_are t k) (most_are ts k)

most_append : (a b : List ℕ) → most (a ++ b) ≡ max (most a) (most b)
most_append [] b = omega arith
most_append (x ∷ a) b = omega (arith, most_append a b)

-- No element of the stack has more levels than the result.
most_led : (text : List ℕ) (x : ℕ) (ns : List Node) (hs : List ℕ) → Leads HasArity above text x ns hs → most hs ≤ x
most_led text x [] hs h = omega (arith, ap most h)
most_led text x (n ∷ ns) hs h =
    let r : most (h.1 ++ (1 + most h.2) ∷ []) ≤ x = most_led text x ns (h.1 ++ (1 + most h.2) ∷ []) h.6 in
    omega (arith, r, most_append h.1 ((1 + most h.2) ∷ []), most_append h.1 h.2, ap most h.5)

-- The levels on the stack after the first k nodes.
pub record Raising (ns : List Node) (k : ℕ) (hs : List ℕ) : Type 0 where
  pub few : most hs ≤ level_limit
  pub leads : (text : List ℕ) (t : Tree) → IsFull t → AllFit text ns (flat t)
      → Leads HasArity above text (tree_levels t) (drop k ns) hs

pub none_raised : (ns : List Node) → Raising ns 0 []
none_raised ns = record {
  few = omega arith;
  leads =
      λ text t f a. subst (λ (x : ℕ). Leads HasArity above text x ns []) (levels_are t)
      (leads_from_nothing HasArity above text t ns (full_shaped t f) a);
}

-- The effect of the next node.
step : (text : List ℕ) (x : ℕ) (n : Node) (ns : List Node) (old new : List ℕ) (h : ℕ)
    → Leads HasArity above text x (n ∷ ns) old → IsRaised n old new h → Leads HasArity above text x ns (new ++ h ∷ [])
step text x n ns old new h l r =
    let c : (l.1 ≡ new) × (l.2 ≡ r.under) = cut_same l.1 l.2 new r.under (sym l.5 ∙ r.stack)
    (l.4 ∙ sym (below_fits text n l.0 l.3) ∙ sym r.count) in
    subst (Leads HasArity above text x ns)
    (ap (λ (hs : List ℕ). hs ++ (1 + most l.2) ∷ []) c.0
    ∙ ap (λ (y : ℕ). new ++ y ∷ []) (ap (λ (hs : List ℕ). 1 + most hs) c.1 ∙ sym r.levels_are)) l.6

pub next_raised : (ns : List Node) (k : ℕ) (d : Node) (old new : List ℕ) (h : ℕ) → k < length ns → Raising ns k old
    → IsRaised (get_or ns k d) old new h → Raising ns (k + 1) (new ++ h ∷ [])
next_raised ns k d old new h lt s r = record {
  few =
      omega (arith, s.few, r.few, ap most r.stack, most_append new r.under, most_append new (h ∷ []));
  leads =
      λ text t f a. step text (tree_levels t) (get_or ns k d) (drop (k + 1) ns) old new h
      (subst (λ (ms : List Node). Leads HasArity above text (tree_levels t) ms old) (drop_more ns k d lt) (s.leads text t f a))
      r;
}

-- If a node has no valid levels, no tree with few levels has the nodes.
pub not_raised : (ns : List Node) (k : ℕ) (d : Node) (old : List ℕ) (w : Reason) → k < length ns → Raising ns k old
    → IsNotRaised (get_or ns k d) old w → HaveMany ns w
not_raised ns k d old BadArgument lt s r =
    λ text t f a.
    let l : Leads HasArity above text (tree_levels t) (get_or ns k d ∷ drop (k + 1) ns) old =
    subst (λ (ms : List Node). Leads HasArity above text (tree_levels t) ms old) (drop_more ns k d lt) (s.leads text t f a) in
    omega (arith, r, l.4, below_fits text (get_or ns k d) l.0 l.3, length-append l.1 l.2, ap length l.5)
not_raised ns k d old TooDeep lt s r =
    λ text t f a few.
    let l : Leads HasArity above text (tree_levels t) (get_or ns k d ∷ drop (k + 1) ns) old =
    subst (λ (ms : List Node). Leads HasArity above text (tree_levels t) ms old) (drop_more ns k d lt) (s.leads text t f a) in
    let m : level_limit ≤ most l.2 =
    r l.1 l.2 l.5 (l.4 ∙ sym (below_fits text (get_or ns k d) l.0 l.3)) in
    let u : most (l.1 ++ (1 + most l.2) ∷ []) ≤ tree_levels t =
    most_led text (tree_levels t) (drop (k + 1) ns) (l.1 ++ (1 + most l.2) ∷ []) l.6 in
    omega (arith, m, u, few, most_append l.1 ((1 + most l.2) ∷ []))
not_raised ns k d old w lt s r = absurd r

pub all_raised : (ns : List Node) (k : ℕ) (hs : List ℕ) → length ns ≤ k → Raising ns k hs → HaveFew ns
all_raised ns k hs le s =
    λ text t f a.
    let l : Leads HasArity above text (tree_levels t) [] hs =
    subst (λ (ms : List Node). Leads HasArity above text (tree_levels t) ms hs) (drop_all k ns le) (s.leads text t f a) in
    omega (arith, s.few, ap most l)

-- The greatest of the first i + 1 numbers.
pub most_more : (xs : List ℕ) (i d : ℕ) → i < length xs → most (take (i + 1) xs) ≡ max (most (take i xs)) (get_or xs i d)
most_more xs i d lt =
    omega (arith, ap most (take_more xs i d lt), most_append (take i xs) (get_or xs i d ∷ []))
