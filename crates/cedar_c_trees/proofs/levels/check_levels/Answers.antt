use Rattle.std.proofs.Common.{arith, sym, subst}
use Rattle.std.proofs.lemmas.Result.{err_from_is_err_and}
use Rattle.cedar_c_trees.proofs.Raised.{Raising, none_raised, next_raised, not_raised, all_raised}
use Rattle.cedar_c_trees.proofs.levels.check_levels.Goals as goal

pub loop-node-init : goal.loop-node-init
loop-node-init c = subst (Raising c.args.nodes.now 0) (sym c.new-heights.ensures.items) (none_raised c.args.nodes.now)

pub returns-in_err-height : goal.returns-in_err-height
returns-in_err-height c =
    let p = err_from_is_err_and c.from_residual.result c.from_residual.ensures.1 in
    rw (p.1, p.2)
    (not_raised c.args.nodes.now c.loop-node.node-index _ c.loop-node.heights.items _ (omega arith) c.loop-node.invariant
    c.in_err-height.ensures)

pub loop-node-preserved : goal.loop-node-preserved
loop-node-preserved c =
    rw c.in_ok-push.ensures.items
    (next_raised c.args.nodes.now c.loop-node.node-index _ c.loop-node.heights.items c.raised.new.heights.items
    c.in_ok-height.height (omega arith) c.loop-node.invariant c.in_ok-height.ensures)

pub returns : goal.returns
returns c = all_raised c.args.nodes.now c.loop-node.node-index c.loop-node.heights.items (omega arith) c.loop-node.invariant
