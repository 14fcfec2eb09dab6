use Rattle.std.proofs.Common.{◌≡◌, ◌++◌, map}
use Rattle.cedar_dry_run.proofs.requested.push_parents.Given as goal

abbrev pub invariant-loop-parent : goal.invariant-loop-parent
invariant-loop-parent l = l.uids.items ≡ l.initial.uids.items ++ map (λ x. x.now) l.yielded
