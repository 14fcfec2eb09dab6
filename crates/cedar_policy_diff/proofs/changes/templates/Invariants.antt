use Rattle.std.proofs.Common.{◌≡◌, ◌++◌, map}
use Rattle.cedar_policy_maps.specs.Maps.{templates_in}
use Rattle.cedar_policy_diff.specs.Diff.{templates_of}
use Rattle.cedar_policy_diff.proofs.changes.templates.Given as goal

abbrev pub invariant-loop-body : goal.invariant-loop-body
invariant-loop-body g l =
    map (λ t. t.now) l.templates.items ++ templates_in l.set.policies l.body-iterator ≡ templates_of l.set
