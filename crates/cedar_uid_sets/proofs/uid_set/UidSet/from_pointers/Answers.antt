use Rattle.std.proofs.Common.{◌∙◌}
use Rattle.std.proofs.lemmas.Result.{IfOk-weaker}
use Rattle.cedar_uid_sets.proofs.Sorting.{set_sorted}
use Rattle.cedar_uid_sets.proofs.uid_set.UidSet.from_pointers.Goals as goal

-- Sorting does not change the set.
pub returns : goal.returns
returns c = IfOk-weaker c.gathered.result _ _
    (λ s h. h ∙ set_sorted c.args.uids.items _ c.sort_unstable.ensures.permutation) c.gathered.ensures

pub returns-then-ascend-2 : goal.returns-then-ascend-2
returns-then-ascend-2 c = c.from_ascending-then-ascend-2.ensures
    ∙ set_sorted c.args.uids.items _ c.sort_unstable.ensures.permutation
