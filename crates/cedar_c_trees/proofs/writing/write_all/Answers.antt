use Rattle.cedar_c_trees.proofs.Drafting.{drafted_next, less_left}
use Rattle.cedar_c_trees.proofs.writing.write_all.Goals as goal

pub loop-next-preserved : goal.loop-next-preserved
loop-next-preserved c =
    drafted_next _ c.loop-next.draft c.write_next.new.draft c.loop-next.pending.items c.pop.new.self.items
    c.write_next.new.pending.items c.in-Some.next c.in-Some.ensures.items c.loop-next.invariant
    c.in_ok-write_next.ensures

pub loop-next-smaller : goal.loop-next-smaller
loop-next-smaller c =
    less_left c.loop-next.draft c.write_next.new.draft c.loop-next.pending.items c.pop.new.self.items
    c.write_next.new.pending.items c.in-Some.next c.in-Some.ensures.items c.in_ok-write_next.ensures
