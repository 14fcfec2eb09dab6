use Rattle.std.proofs.Common.{refl}
use Rattle.cedar_uid_sets.proofs.Filtered.{ascend_chosen}
use Rattle.cedar_uid_sets.proofs.uid_set.UidSet.retain.Goals as goal

-- The remaining uids are a selection of ascending uids.
pub invariant_of-self : goal.invariant_of-self
invariant_of-self g c =
    rw c.retain.ensures.filtered.4 (ascend_chosen c.retain.ensures.filtered.0 c.self.inside.uids.items c.self.invariant)

pub returns : goal.returns
returns g c = record {
  before = c.self.inside.uids.items;
  after = c.retain.new.self.items;
  was = record { all = c.self.view_is; ascending = c.self.invariant };
  is = record { all = refl; ascending = invariant_of-self g c };
  filtered = c.retain.ensures.filtered;
}
