use Rattle.cedar_deep_copy_stores.proofs.SameEntity.{no_parents, parents_next}
use Rattle.cedar_deep_copy_stores.proofs.entity.add_parents.Goals as goal

pub loop-parent-init : goal.loop-parent-init
loop-parent-init c = no_parents c.args.entity.now c.requires.parents

pub loop-parent-preserved : goal.loop-parent-preserved
loop-parent-preserved c =
    parents_next c.args.entity.now c.loop-parent.entity c.add_shared_parent.new.self c.loop-parent.yielded
    c.in-Some.parent c.requires.indirect c.loop-parent.invariant c.in_ok-add_shared_parent.ensures.ok
