-- The nodes of an expression are decoded as it, and as nothing else.
use Rattle.std.proofs.Common.{◌≤◌, ℕ, List, sym}
use Rattle.cedar_terms.specs.ExprTree.{ExprTree}
use Rattle.cedar_c_trees.specs.Items.{BuildsExpr, flat, tree_levels}
use Rattle.cedar_c_trees.specs.Ordered.{IsOnlyRead}
use Rattle.cedar_c_trees.specs.Plans.{HasNames, expr_items, expr_plan}
use Rattle.cedar_c_trees.specs.Reads.{AllDecode}
use Rattle.cedar_c_trees.specs.Writes.{AreAscii}
use Rattle.cedar_c_trees.specs.Items.{level_limit}
use Rattle.cedar_c_trees.specs.declared.node.Node.{Node}
use Rattle.cedar_c_trees.proofs.ExprBack.{read_back}
use Rattle.cedar_c_trees.proofs.SameItem.{same_items}

-- The nodes of an encoded expression are decoded as that expression and as nothing else.
pub expr_back : (e : ExprTree) (text : List ℕ) (ns : List Node) → HasNames e → AreAscii (expr_items e)
    → tree_levels (expr_plan e) ≤ level_limit → AllDecode text ns (expr_items e) → IsOnlyRead BuildsExpr text ns e
expr_back e text ns n a l s = record {
  read = record { tree = expr_plan e; says = s; levels = l; value = (read_back e n).planned };
  only =
      λ d r. (read_back e n).only r.tree d (sym (same_items text ns (expr_items e) (flat r.tree) a s r.says)) r.value;
}
