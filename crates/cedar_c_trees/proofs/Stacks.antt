-- The trees whose values are on the stack, while their nodes are read.
use Rattle.std.proofs.Common.{◌≡◌, ◌∙◌, ap, sym, refl, subst, ℕ, ◌+◌, ◌<◌, ◌≤◌, length, take, List, [], ◌∷◌, ◌++◌}
use Rattle.std.proofs.Common.{append_assoc, String, string_bytes}
use Rattle.std.specs.declared.alloc.Global.{Global}
use Rattle.std.proofs.Math.ListN.{get_or}
use Rattle.std.proofs.lemmas.List.{take_more, take_all, length-map}
use mathlib.Core.List.{append-nil}
use Rattle.cedar_terms.specs.ValueTree.{ValueTree}
use Rattle.cedar_terms.specs.ValueViews.{named_pairs}
use Rattle.cedar_c_lists.specs.laws.Zipping.{zip_more}
use Rattle.cedar_c_trees.specs.Items.{Item, Tree, node, Trees, no_trees, tree_then, flat, flats, IsBuiltFrom, AreBuiltFrom, tree_levels}
use Rattle.cedar_c_trees.specs.Reads.{Decodes, AllDecode, IsReadAs}
use Rattle.cedar_c_trees.specs.laws.Stacks.{Makes}
use Rattle.cedar_c_trees.specs.Items.{level_limit}
use Rattle.cedar_c_trees.specs.declared.node.Node.{Node}

-- Holds if the nodes mean the items of some trees, and these are the values of the trees.
pub record Stacked {V : Type 0} (C : Item → List V → V → Type 0) (text : List ℕ) (ns : List Node) (vs : List V)
    : Type 0 where
  pub trees : Trees
  pub says : AllDecode text ns (flats trees)
  pub values : AreBuiltFrom C trees vs

pub none_stacked : {V : Type 0} (C : Item → List V → V → Type 0) (text : List ℕ) → Stacked C text [] []
none_stacked C text = record { trees = no_trees; says = tt; values = tt }

-- Trees, split as a list of their values is.
record Cut {V : Type 0} (C : Item → List V → V → Type 0) (ts : Trees) (a b : List V) : Type 0 where
  front : Trees
  back : Trees
  whole : flats ts ≡ flats front ++ flats back
  front_values : AreBuiltFrom C front a
  back_values : AreBuiltFrom C back b

cut : {V : Type 0} (C : Item → List V → V → Type 0) (a b : List V) (ts : Trees) → AreBuiltFrom C ts (a ++ b)
    → Cut C ts a b
cut C [] b ts h = record { front = no_trees; back = ts; whole = refl; front_values = tt; back_values = h }
cut C (x ∷ a) b no_trees h = absurd h
cut C (x ∷ a) b (tree_then t ts) h =
    let r : Cut C ts a b = cut C a b ts h.1 in
    record {
      front = tree_then t r.front;
      back = r.back;
      whole = ap (λ l. flat t ++ l) r.whole ∙ sym (append_assoc (flat t) (flats r.front) (flats r.back));
      front_values = (h.0, r.front_values);
      back_values = r.back_values;
    }

-- One more tree, appended.
and_then : Trees → Tree → Trees
and_then no_trees t = tree_then t no_trees
and_then (tree_then s ts) t = tree_then s (and_then ts t)

flats_more : (ts : Trees) (t : Tree) → flats (and_then ts t) ≡ flats ts ++ flat t
unfolding and_then
flats_more no_trees t = append-nil (flat t)
flats_more (tree_then s ts) t = ap (λ l. flat s ++ l) (flats_more ts t) ∙ sym (append_assoc (flat s) (flats ts) (flat t))

values_more : {V : Type 0} (C : Item → List V → V → Type 0) (ts : Trees) (vs : List V) (t : Tree) (v : V)
    → AreBuiltFrom C ts vs → IsBuiltFrom C t v → AreBuiltFrom C (and_then ts t) (vs ++ v ∷ [])
unfolding and_then
values_more C no_trees [] t v h r = (r, tt)
values_more C no_trees (w ∷ vs) t v h r = absurd h
values_more C (tree_then s ts) [] t v h r = absurd h
values_more C (tree_then s ts) (w ∷ vs) t v h r = (h.0, values_more C ts vs t v h.1 r)

-- What a node does to the stack.
pub makes : {V : Type 0} (C : Item → List V → V → Type 0) (text : List ℕ) (n : Node) (old new : List V) (v : V) (i : Item)
    (below : List V) → Decodes text n i → old ≡ new ++ below → C i below v → Makes C text n old new v
makes C text n old new v i below says stack combines = record {
  item = i;
  below = below;
  says = says;
  stack = stack;
  combines = combines;
}

-- One more node is read.
pub one_node : {V : Type 0} (C : Item → List V → V → Type 0) (text : List ℕ) (ns : List Node) (n : Node)
    (old new : List V) (v : V) → Stacked C text ns old → Makes C text n old new v → Stacked C text (ns ++ n ∷ []) (new ++ v ∷ [])
one_node C text ns n old new v s m =
    let r : Cut C s.trees new m.below = cut C new m.below s.trees (subst (AreBuiltFrom C s.trees) m.stack s.values) in
    record {
      trees = and_then r.front (node m.item r.back);
      says = subst (AllDecode text (ns ++ n ∷ []))
          (ap (λ l. l ++ m.item ∷ []) r.whole ∙ append_assoc (flats r.front) (flats r.back) (m.item ∷ [])
          ∙ sym (flats_more r.front (node m.item r.back)))
          (zip_more (Decodes text) ns (flats s.trees) n m.item s.says m.says);
      values = values_more C r.front new (node m.item r.back) v r.front_values (m.below, r.back_values, m.combines);
    }

-- The next of some nodes is read.
pub next_node : {V : Type 0} (C : Item → List V → V → Type 0) (text : List ℕ) (ns : List Node) (k : ℕ)
    (d : Node) (old new : List V) (v : V) → k < length ns → Stacked C text (take k ns) old → Makes C text (get_or ns k d) old new v
    → Stacked C text (take (k + 1) ns) (new ++ v ∷ [])
next_node C text ns k d old new v l s m =
    rw (take_more ns k d l) (one_node C text (take k ns) (get_or ns k d) old new v s m)

one_tree : {V : Type 0} (C : Item → List V → V → Type 0) (text : List ℕ) (ns : List Node) (v : V) (ts : Trees)
    → ((t : Tree) → AllDecode text ns (flat t) → IsBuiltFrom C t v → tree_levels t ≤ level_limit)
    → AllDecode text ns (flats ts) → AreBuiltFrom C ts (v ∷ []) → IsReadAs C text ns v
one_tree C text ns v no_trees f a h = absurd h
one_tree C text ns v (tree_then t no_trees) f a h =
    let says : AllDecode text ns (flat t) = subst (AllDecode text ns) (append-nil (flat t)) a in
    record { tree = t; says = says; levels = f t says h.0; value = h.0 }
one_tree C text ns v (tree_then t (tree_then u ts)) f a h = absurd h.1

-- All nodes are read, and one value is left.
pub one_left : {V : Type 0} (C : Item → List V → V → Type 0) (text : List ℕ) (ns : List Node) (k : ℕ) (vs : List V)
    (v : V) → ((t : Tree) → AllDecode text ns (flat t) → IsBuiltFrom C t v → tree_levels t ≤ level_limit) → length ns ≤ k
    → Stacked C text (take k ns) vs → vs ≡ v ∷ [] → IsReadAs C text ns v
one_left C text ns k vs v f l s e =
    let r : Stacked C text ns (v ∷ []) =
    subst (Stacked C text ns) e (subst (λ (ms : List Node). Stacked C text ms vs) (take_all k ns l) s) in
    one_tree C text ns v r.trees f r.says r.values

pub length_named : (ps : List (String Global × ValueTree)) → length (named_pairs ps) ≡ length ps
length_named ps = length-map ps (λ p. (string_bytes p.0, p.1))
