use Rattle.std.proofs.Common.{arith}
use Rattle.cedar_c_lists.specs.laws.Zipping.{read_more_uids}
use Rattle.cedar_c_stores.proofs.known.Known.uids_of.Goals as goal

pub loop-span-preserved : goal.loop-span-preserved
loop-span-preserved c =
    rw c.in_ok-push.ensures.items
    (read_more_uids c.args.text.now c.loop-span.uids.items c.args.spans.now c.loop-span.span-index _
    c.in_ok-uid_at.field-0 (omega arith) c.loop-span.invariant c.in_ok-uid_at.ensures)
