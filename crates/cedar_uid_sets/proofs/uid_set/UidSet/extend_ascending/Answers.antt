use Rattle.std.proofs.Common.{rules}
use Rattle.cedar_uid_sets.proofs.Merging.{ascend_merged, set_merged, union_none, union_with_none}
use Rattle.cedar_uid_sets.proofs.uid_set.UidSet.extend_ascending.Goals as goal

-- The set was empty.
pub returns-then-is_empty-clause-ok : goal.returns-then-is_empty-clause-ok
returns-then-is_empty-clause-ok c = union_none c.args.self.now _ (c.is_empty.ensures.0 c.if-is_empty.true)

-- There is nothing to insert.
pub returns-then-is_empty-2-clause-ok : goal.returns-then-is_empty-2-clause-ok
returns-then-is_empty-2-clause-ok c = union_with_none c.args.self.now c.args.uids.items (search rules)

-- Both were merged.
pub invariant_of-self-2 : goal.invariant_of-self-2
invariant_of-self-2 c =
    rw (c.merge.ensures, c.replace-before.ensures.value) (ascend_merged _ _ c.requires c.self.invariant)

pub returns-clause-ok : goal.returns-clause-ok
returns-clause-ok c =
    rw (c.merge.ensures, c.replace-before.ensures.value, ← c.self.view_is)
    (set_merged c.args.uids.items c.self.inside.uids.items)
