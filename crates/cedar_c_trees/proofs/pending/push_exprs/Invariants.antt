use Rattle.std.proofs.Common.{take}
use Rattle.cedar_terms.specs.ExprTree.{expr_trees}
use Rattle.cedar_c_trees.specs.Drafts.{Pushes}
use Rattle.cedar_c_trees.specs.Items.{flats}
use Rattle.cedar_c_trees.specs.Plans.{HaveNames, exprs_plan}
use Rattle.cedar_c_trees.proofs.pending.push_exprs.Given as goal

abbrev pub invariant-loop-expr : goal.invariant-loop-expr
invariant-loop-expr l = Pushes (flats (exprs_plan (expr_trees (take l.expr-index l.exprs))))
    (HaveNames (expr_trees (take l.expr-index l.exprs)))
    l.initial.pending.items l.pending.items
