use Rattle.cedar_uid_sets.proofs.Edits.{present, sorted_insert, set_insert, set_insert_present}
use Rattle.cedar_uid_sets.proofs.uid_set.UidSet.insert.Goals as goal

-- The set contained the uid.
pub returns-in-Ok-clause-ok : goal.returns-in-Ok-clause-ok
returns-in-Ok-clause-ok c =
    set_insert_present _ _
    (rw (← c.self.view_is, ← c.deref.ensures.value, ← c.key.ensures) (present _ _ _ c.in-Ok.ensures))

-- The uid was inserted at its gap.
pub invariant_of-self-in-Err : goal.invariant_of-self-in-Err
invariant_of-self-in-Err c =
    rw c.in_ok-insert-in-Err.ensures.items
    (sorted_insert _ _ _ (rw (← c.deref.ensures.value, ← c.key.ensures) c.in-Err.ensures) c.self.invariant)

pub returns-in_ok-insert-in-Err-clause-ok : goal.returns-in_ok-insert-in-Err-clause-ok
returns-in_ok-insert-in-Err-clause-ok c =
    rw (c.in_ok-insert-in-Err.ensures.items, ← c.self.view_is)
    (set_insert c.self.inside.uids.items c.in-Err.at c.args.shared)
