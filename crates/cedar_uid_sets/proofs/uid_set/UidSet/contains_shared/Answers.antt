use Rattle.std.proofs.Common.{sym, ◌∙◌}
use Rattle.cedar_uid_sets.specs.laws.Sets.{contains_listed}
use Rattle.cedar_uid_sets.proofs.uid_set.UidSet.contains_shared.Goals as goal

pub returns : goal.returns
returns c =
    c.is_one_of.ensures
    ∙ sym (rw (← c.self.view_is, ← c.deref.ensures.value, c.key.ensures) (contains_listed _ c.args.shared.now))
