use Rattle.std.proofs.Common.{◌≡◌, ◌+◌, ◌-◌, ◌≤◌}
use Rattle.cedar_policy_merge.specs.Fresh.{is_bound_in_either, free_below}
use Rattle.cedar_policy_merge.specs.laws.FreshLaws.{count}
use Rattle.cedar_policy_merge.specs.laws.Trials.{number_of, IsAt}
use Rattle.cedar_policy_merge.proofs.fresh.next_free.Given as goal

abbrev pub invariant-loop-id : goal.invariant-loop-id
invariant-loop-id g l = record {
  at : IsAt l.trial;
  within : number_of l.trial
      ≤ free_below (is_bound_in_either l.here l.other) (number_of l.fn.trial) + count l.here l.other;
  none : free_below (is_bound_in_either l.here l.other) (number_of l.trial)
      ≡ free_below (is_bound_in_either l.here l.other) (number_of l.fn.trial);
}

abbrev pub decreases-loop-id : goal.decreases-loop-id
decreases-loop-id g l =
    free_below (is_bound_in_either l.here l.other) (number_of l.fn.trial) + count l.here l.other - number_of l.trial
