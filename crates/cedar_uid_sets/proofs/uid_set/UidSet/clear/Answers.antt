use Rattle.cedar_uid_sets.proofs.Edits.{none_ascends}
use Rattle.cedar_uid_sets.proofs.uid_set.UidSet.clear.Goals as goal

pub invariant_of-self : goal.invariant_of-self
invariant_of-self c = rw c.clear.ensures.items none_ascends
