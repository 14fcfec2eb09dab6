use Rattle.std.specs.Prelude.{◌≡◌}
use Rattle.cedar_uid_sets.proofs.merge.shared.Given as goal

abbrev pub invariant-loop-uid : goal.invariant-loop-uid
invariant-loop-uid g l = l.shared.items ≡ l.yielded
