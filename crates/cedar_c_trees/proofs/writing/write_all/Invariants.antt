use Rattle.std.proofs.Common.{length}
use Rattle.cedar_c_trees.specs.Drafts.{pending_items}
use Rattle.cedar_c_trees.proofs.Drafting.{Drafted}
use Rattle.cedar_c_trees.proofs.writing.write_all.Given as goal

abbrev pub invariant-loop-next : goal.invariant-loop-next
invariant-loop-next l = Drafted l.fn.whole l.draft l.pending.items

abbrev pub decreases-loop-next : goal.decreases-loop-next
decreases-loop-next l = length (pending_items l.pending.items)
