use Rattle.std.proofs.Common.{sym, ◌∙◌}
use Rattle.cedar_uid_sets.specs.laws.Sets.{contains_listed}
use Rattle.cedar_uid_sets.proofs.uid_set.UidSet.holds.Goals as goal

-- If no uid has these numbers, the uid is not in the set.
pub returns-else-may_contain : goal.returns-else-may_contain
returns-else-may_contain c = c.if-may_contain.false ∙ sym (c.may_contain.ensures c.if-may_contain.false)
    ∙ sym (rw (← c.self.view_is, ← c.deref.ensures.value, c.key.ensures) (contains_listed _ c.args.shared.now))
