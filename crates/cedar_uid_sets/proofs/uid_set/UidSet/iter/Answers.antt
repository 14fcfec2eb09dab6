use Rattle.std.proofs.Common.{ap, sym, ◌∙◌}
use Rattle.std.specs.FinSet as set
use Rattle.std.specs.Set.{is_member}
use Rattle.cedar_ids.specs.UidOf.{same_uid}
use Rattle.cedar_uid_sets.specs.laws.Sets.{contains_listed}
use Rattle.cedar_uid_sets.proofs.uid_set.UidSet.iter.Goals as goal

pub returns-clause-members : goal.returns-clause-members
returns-clause-members c q = ap (λ l. is_member same_uid l q) (c.iter.ensures.rest ∙ c.deref.ensures.value)
    ∙ sym (contains_listed (c.self.inside.uids.items) q) ∙ ap (λ s. set.contains s q) c.self.view_is
