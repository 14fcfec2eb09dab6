use Rattle.std.proofs.Common.{◌≡◌, ◌+◌, ◌-◌, ◌<◌, ◌≤◌, ℕ, length}
use Rattle.std.specs.Prelude.{slice_index_or}
use Rattle.cedar_ids.specs.declared.entity.EntityUID.{EntityUID}
use Rattle.cedar_uid_sets.specs.laws.Fronts.{Abbreviate}
use Rattle.cedar_uid_sets.specs.laws.Places.{RisesIn}
use Rattle.cedar_uid_sets.proofs.ascending.run_end.Given as goal

abbrev pub invariant-loop-at : goal.invariant-loop-at
invariant-loop-at l = record {
  after : l.start < l.at;
  within : l.at ≤ length l.uids;
  last : (k : ℕ) (d : EntityUID) → k + 1 ≡ l.at → Abbreviate l.first-inside.kind l.front (slice_index_or l.uids k d);
  rises : RisesIn l.uids l.start l.at;
}

abbrev pub decreases-loop-at : goal.decreases-loop-at
decreases-loop-at l = length l.uids - l.at
