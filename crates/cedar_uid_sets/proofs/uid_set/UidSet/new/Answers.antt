use Rattle.cedar_uid_sets.proofs.Edits.{none_ascends}
use Rattle.cedar_uid_sets.proofs.uid_set.UidSet.new.Goals as goal

pub invariant_of-result : goal.invariant_of-result
invariant_of-result c = rw c.new.ensures.items none_ascends
