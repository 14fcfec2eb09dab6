use Rattle.cedar_uid_sets.proofs.Filtered.{union_empty}
use Rattle.cedar_uid_sets.proofs.uid_set.UidSet.extend_from.Goals as goal

pub returns-then-is_empty : goal.returns-then-is_empty
returns-then-is_empty c = union_empty c.args.self.now c.args.others.now (c.is_empty.ensures.0 c.if-is_empty.true)
