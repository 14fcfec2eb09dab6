use Rattle.std.proofs.Common.{arith}
use Rattle.cedar_c_trees.proofs.Drafting.{value_pushed}
use Rattle.cedar_c_trees.proofs.pending.push_values.Goals as goal

pub loop-element-preserved : goal.loop-element-preserved
loop-element-preserved c =
    value_pushed c.args.pending.now.items c.deref-element-items.result.now c.loop-element.element-index _ _
    c.loop-element.pending.items c.push.new.self.items (omega arith) c.element-item.is c.in_ok-push.ensures.items
    c.loop-element.invariant
