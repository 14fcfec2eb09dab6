use Rattle.std.proofs.Common.{◌≡◌, ◌++◌, map, drop}
use Rattle.std.specs.List.{filter}
use Rattle.cedar_policy_diff.specs.Diff.{is_relinking}
use Rattle.cedar_policy_diff.specs.Views.{pair_of}
use Rattle.cedar_policy_diff.proofs.changes.relinked.Given as goal

abbrev pub invariant-loop-change : goal.invariant-loop-change
invariant-loop-change l =
    map pair_of l.relinked.items ++ filter is_relinking (map pair_of (drop l.change-index l.changes))
    ≡ filter is_relinking (map pair_of l.changes)
