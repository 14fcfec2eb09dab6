use Rattle.std.proofs.Common.{arith}
use Rattle.cedar_c_trees.proofs.Drafting.{expr_pushed}
use Rattle.cedar_c_trees.proofs.pending.push_exprs.Goals as goal

pub loop-expr-preserved : goal.loop-expr-preserved
loop-expr-preserved c =
    expr_pushed c.args.pending.now.items c.args.exprs.now c.loop-expr.expr-index _ _
    c.loop-expr.pending.items c.push.new.self.items (omega arith) c.expr-item.is c.in_ok-push.ensures.items
    c.loop-expr.invariant
