use Rattle.std.proofs.Common.{arith, subst, sym}
use Rattle.std.specs.Vec.Iter.{into_iter_items}
use Rattle.cedar_uid_sets.proofs.Gathering.{Covers, covers_all, covers_more, covered}
use Rattle.cedar_uid_sets.proofs.gather.gathered.Goals as goal

pub loop-shared-init : goal.loop-shared-init
loop-shared-init c =
    subst (λ s. Covers s (into_iter_items c.into_iter-shared-iterator.result) c.args.uids.items) (sym c.new-set.ensures)
    (covers_all (into_iter_items c.into_iter-shared-iterator.result) c.args.uids.items
    c.into_iter-shared-iterator.ensures.into_iter_gives.0)

pub loop-shared-preserved : goal.loop-shared-preserved
loop-shared-preserved c =
    subst (λ s. Covers s (into_iter_items c.next.new.self) c.args.uids.items) (sym c.in_ok-insert.ensures.ok)
    (covers_more c.loop-shared.set c.in-Some.shared (into_iter_items c.loop-shared.shared-iterator)
    (into_iter_items c.next.new.self) c.args.uids.items c.in-Some.ensures.steps.0 c.loop-shared.invariant)

pub returns : goal.returns
returns c =
    covered c.loop-shared.set (into_iter_items c.loop-shared.shared-iterator) c.args.uids.items
    (omega (arith, c.in-None.ensures.steps.0)) c.loop-shared.invariant
