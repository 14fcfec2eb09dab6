use Rattle.std.proofs.lemmas.Result.{on_ok_weaker}
use Rattle.cedar_c_trees.proofs.Drafting.{pushed_both}
use Rattle.cedar_c_trees.proofs.pending.push_two.Goals as goal

pub returns : goal.returns
returns c =
    on_ok_weaker c.push_expr-2.result
    (pushed_both _ _ _ _ c.args.pending.now.items c.push_expr.new.pending.items c.push_expr-2.new.pending.items
    c.in_ok-push_expr.ensures) c.push_expr-2.ensures
