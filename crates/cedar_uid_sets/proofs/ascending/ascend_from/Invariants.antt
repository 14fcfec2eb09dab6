use Rattle.std.proofs.Common.{◌-◌, ◌<◌, ◌≤◌, length}
use Rattle.cedar_uid_sets.specs.laws.Places.{RisesIn}
use Rattle.cedar_uid_sets.proofs.ascending.ascend_from.Given as goal

abbrev pub invariant-loop-at : goal.invariant-loop-at
invariant-loop-at l = record {
  some : 0 < l.at;
  within : l.at ≤ length l.uids;
  rises : RisesIn l.uids 0 l.at;
}

abbrev pub decreases-loop-at : goal.decreases-loop-at
decreases-loop-at l = length l.uids - l.at
