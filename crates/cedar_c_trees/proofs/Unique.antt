-- A list of items belongs to only one tree.
use Rattle.std.proofs.Common.{◌≡◌, ◌∙◌, ap, sym, refl, ℕ, suc, length, List, [], ◌∷◌, ◌++◌, append_assoc, arith}
use mathlib.Core.List.{append-nil, reverse}
use Rattle.std.proofs.lemmas.List.{reverse-append}
pub use Rattle.cedar_c_trees.specs.laws.Levels.{arity, count, IsFull, AreFull}
use Rattle.cedar_c_trees.specs.Items.{Item, Tree, node, Trees, no_trees, tree_then, flat, flats, IsBuiltFrom, AreBuiltFrom}

-- The items from the last to the first.
abbrev mutual
  pub back : Tree → List Item
  back (node i ts) = i ∷ backs ts

  pub backs : Trees → List Item
  backs no_trees = []
  backs (tree_then t ts) = backs ts ++ back t

mutual
  turned : (t : Tree) → reverse (flat t) ≡ back t
  turned (node i ts) = reverse-append (flats ts) (i ∷ []) ∙ ap (λ l. i ∷ l) (all_turned ts)

  all_turned : (ts : Trees) → reverse (flats ts) ≡ backs ts
  all_turned no_trees = refl
  all_turned (tree_then t ts) =
      reverse-append (flat t) (flats ts) ∙ ap (λ l. l ++ reverse (flat t)) (all_turned ts)
      ∙ ap (λ l. backs ts ++ l) (turned t)

heads : (i j : Item) (x y : List Item) → i ∷ x ≡ j ∷ y → i ≡ j
heads i j x y e = cc

tails : (i j : Item) (x y : List Item) → i ∷ x ≡ j ∷ y → x ≡ y
tails i j x y e = cc

less_one : (n m : ℕ) → suc n ≡ suc m → n ≡ m
less_one n m e = omega arith

never : (n : ℕ) → 0 ≡ suc n → ⊥
never n e = omega arith

mutual
  same_tree : (t u : Tree) (x y : List Item) → IsFull t → IsFull u → back t ++ x ≡ back u ++ y → (t ≡ u) × (x ≡ y)
  same_tree (node i ts) (node j us) x y f g e =
      let h : i ≡ j = heads i j (backs ts ++ x) (backs us ++ y) e in
      let r : (ts ≡ us) × (x ≡ y) = same_trees ts us x y (f.0 ∙ ap arity h ∙ sym g.0) f.1 g.1
      (tails i j (backs ts ++ x) (backs us ++ y) e) in
      ((λ k. node (h k) (r.0 k)), r.1)

  same_trees : (ts us : Trees) (x y : List Item) → count ts ≡ count us → AreFull ts → AreFull us
      → backs ts ++ x ≡ backs us ++ y → (ts ≡ us) × (x ≡ y)
  same_trees no_trees no_trees x y n f g e = (refl, e)
  same_trees no_trees (tree_then u us) x y n f g e = absurd (never (count us) n)
  same_trees (tree_then t ts) no_trees x y n f g e = absurd (never (count ts) (sym n))
  same_trees (tree_then t ts) (tree_then u us) x y n f g e =
      let r : (ts ≡ us) × (back t ++ x ≡ back u ++ y) = same_trees ts us (back t ++ x) (back u ++ y)
      (less_one (count ts) (count us) n) f.1 g.1
      (sym (append_assoc (backs ts) (back t) x) ∙ e ∙ append_assoc (backs us) (back u) y) in
      let s : (t ≡ u) × (x ≡ y) = same_tree t u x y f.0 g.0 r.1 in
      ((λ k. tree_then (s.0 k) (r.0 k)), s.1)

-- Trees with the same items are equal.
pub one_tree_only : (t u : Tree) → IsFull t → IsFull u → flat t ≡ flat u → t ≡ u
one_tree_only t u f g e =
    (same_tree t u [] [] f g
    (append-nil (back t) ∙ sym (turned t) ∙ ap reverse e ∙ turned u ∙ sym (append-nil (back u)))).0

mutual
  -- A tree from which something is built has the correct number of operands.
  pub full : {V : Type 0} (C : Item → List V → V → Type 0)
      (a : (i : Item) (vs : List V) (v : V) → C i vs v → length vs ≡ arity i) (t : Tree) (v : V) → IsBuiltFrom C t v
      → IsFull t
  full C a (node i ts) v h = (counted C ts h.0 h.1 ∙ a i h.0 v h.2, all_full C a ts h.0 h.1)

  all_full : {V : Type 0} (C : Item → List V → V → Type 0)
      (a : (i : Item) (vs : List V) (v : V) → C i vs v → length vs ≡ arity i) (ts : Trees) (vs : List V)
      → AreBuiltFrom C ts vs → AreFull ts
  all_full C a no_trees [] h = tt
  all_full C a no_trees (v ∷ vs) h = absurd h
  all_full C a (tree_then t ts) [] h = absurd h
  all_full C a (tree_then t ts) (v ∷ vs) h = (full C a t v h.0, all_full C a ts vs h.1)

  counted : {V : Type 0} (C : Item → List V → V → Type 0) (ts : Trees) (vs : List V) → AreBuiltFrom C ts vs
      → count ts ≡ length vs
  counted C no_trees [] h = refl
  counted C no_trees (v ∷ vs) h = absurd h
  counted C (tree_then t ts) [] h = absurd h
  counted C (tree_then t ts) (v ∷ vs) h = ap suc (counted C ts vs h.1)
