use Rattle.std.proofs.Common.{◌≡◌, ◌++◌, length}
use Rattle.std.specs.Map.{keys_of, values_of}
use Rattle.cedar_policy_merge.specs.Fresh.{is_bound_in_either, free_below, AreFree}
use Rattle.cedar_policy_merge.specs.laws.Trials.{number_of, IsAt}
use Rattle.cedar_policy_merge.proofs.fresh.fresh_ids.Given as goal

abbrev pub invariant-loop-id : goal.invariant-loop-id
invariant-loop-id g l = record {
  at : IsAt l.trial;
  keys : keys_of l.renaming.entries ++ l.id-iterator ≡ l.fn.ids.keys;
  free : AreFree (is_bound_in_either l.here l.other) 0 (values_of l.renaming.entries);
  next : free_below (is_bound_in_either l.here l.other) (number_of l.trial) ≡ length (values_of l.renaming.entries);
}
