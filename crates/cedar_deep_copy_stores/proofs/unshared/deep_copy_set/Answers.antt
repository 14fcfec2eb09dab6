use Rattle.std.proofs.Common.{ap, cond, true, ◌∙◌}
use Rattle.std.specs.HashSet.{contains}
use Rattle.cedar_ids.specs.UidOf.{same_uid}
use Rattle.cedar_deep_copy_stores.proofs.SameEntity.{put_next}
use Rattle.cedar_deep_copy_stores.proofs.unshared.deep_copy_set.Goals as goal

pub loop-copy-preserved : goal.loop-copy-preserved
loop-copy-preserved g c q =
    put_next (contains same_uid c.loop-copy.set q) (contains same_uid c.insert.new.self q) c.loop-copy.yielded
    c.in-Some.copy q (c.loop-copy.invariant q)
    (c.in_ok-insert.ensures.updates.0 q
    ∙ ap (λ k. cond (same_uid k q) true (contains same_uid c.loop-copy.set q)) c.in_ok-into_uid.ensures)
