-- Properties of everything built from a tree.
use Rattle.std.proofs.Common.{◌≡◌, sym, refl, subst, List, [], ◌∷◌}
use Rattle.std.specs.List.{AllByRecursion}
use Rattle.cedar_c_trees.specs.Items.{Item, Tree, node, Trees, no_trees, tree_then, IsBuiltFrom, AreBuiltFrom}

mutual
  -- One value is built from a tree, if each node builds one value from its operands.
  pub one_made : {V : Type 0} (C : Item → List V → V → Type 0)
      (f : (i : Item) (vs : List V) (v w : V) → C i vs v → C i vs w → v ≡ w) (t : Tree) (v w : V) → IsBuiltFrom C t v
      → IsBuiltFrom C t w → v ≡ w
  one_made {V = V} C f (node i ts) v w h g =
      f i h.0 v w h.2 (subst (λ (vs : List V). C i vs w) (sym (all_one C f ts h.0 g.0 h.1 g.1)) g.2)

  all_one : {V : Type 0} (C : Item → List V → V → Type 0)
      (f : (i : Item) (vs : List V) (v w : V) → C i vs v → C i vs w → v ≡ w) (ts : Trees) (vs ws : List V)
      → AreBuiltFrom C ts vs → AreBuiltFrom C ts ws → vs ≡ ws
  all_one C f no_trees [] [] h g = refl
  all_one C f no_trees [] (w ∷ ws) h g = absurd g
  all_one C f no_trees (v ∷ vs) ws h g = absurd h
  all_one C f (tree_then t ts) [] ws h g = absurd h
  all_one C f (tree_then t ts) (v ∷ vs) [] h g = absurd g
  all_one C f (tree_then t ts) (v ∷ vs) (w ∷ ws) h g =
      λ k. one_made C f t v w h.0 g.0 k ∷ all_one C f ts vs ws h.1 g.1 k

mutual
  -- P is a property of everything built from a tree, if each node preserves it.
  pub made_has : {V : Type 0} (C : Item → List V → V → Type 0) (P : V → Type 0)
      (f : (i : Item) (vs : List V) (v : V) → AllByRecursion P vs → C i vs v → P v) (t : Tree) (v : V)
      → IsBuiltFrom C t v → P v
  made_has C P f (node i ts) v h = f i h.0 v (all_made C P f ts h.0 h.1) h.2

  all_made : {V : Type 0} (C : Item → List V → V → Type 0) (P : V → Type 0)
      (f : (i : Item) (vs : List V) (v : V) → AllByRecursion P vs → C i vs v → P v) (ts : Trees) (vs : List V)
      → AreBuiltFrom C ts vs → AllByRecursion P vs
  all_made C P f no_trees [] h = tt
  all_made C P f no_trees (v ∷ vs) h = absurd h
  all_made C P f (tree_then t ts) [] h = absurd h
  all_made C P f (tree_then t ts) (v ∷ vs) h = (made_has C P f t v h.0, all_made C P f ts vs h.1)
