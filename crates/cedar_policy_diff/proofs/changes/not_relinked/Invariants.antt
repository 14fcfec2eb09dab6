use Rattle.std.proofs.Common.{◌≡◌, ◌++◌, map, drop, not}
use Rattle.std.specs.List.{filter}
use Rattle.cedar_policy_diff.specs.Diff.{is_relinking}
use Rattle.cedar_policy_diff.specs.Views.{pair_of}
use Rattle.cedar_policy_diff.proofs.changes.not_relinked.Given as goal

abbrev pub invariant-loop-change : goal.invariant-loop-change
invariant-loop-change l =
    map pair_of l.changed.items ++ filter (λ c. not (is_relinking c)) (map pair_of (drop l.change-index l.changes))
    ≡ filter (λ c. not (is_relinking c)) (map pair_of l.changes)
