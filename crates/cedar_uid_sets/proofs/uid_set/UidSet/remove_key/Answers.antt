use Rattle.cedar_uid_sets.proofs.Edits.{absent, sorted_remove, set_remove, set_remove_absent}
use Rattle.cedar_uid_sets.proofs.uid_set.UidSet.remove_key.Goals as goal

-- The uid is removed from its position.
pub invariant_of-self : goal.invariant_of-self
invariant_of-self c = rw c.remove.ensures.items (sorted_remove _ _ c.self.invariant)

pub returns-in-Ok : goal.returns-in-Ok
returns-in-Ok c =
    rw (c.remove.ensures.items, ← c.self.view_is)
    (set_remove (c.self.inside.uids.items) c.in-Ok.at c.args.uid.now c.self.invariant
    (rw (← c.deref.ensures.value) c.in-Ok.ensures))

-- The set did not contain the uid.
pub returns-in_default : goal.returns-in_default
returns-in_default c =
    set_remove_absent _ _ (rw (← c.self.view_is, ← c.deref.ensures.value) (absent _ _ _ c.in_default.ensures))
