use Rattle.std.proofs.Common.{◌≡◌, ◌++◌, map, drop}
use Rattle.cedar_policy_diff.specs.Diff.{body_id, templates_of}
use Rattle.cedar_policy_diff.specs.ListDiff.{only_in_first}
use Rattle.cedar_policy_diff.proofs.changes.templates_not_in.Given as goal

abbrev pub invariant-loop-template : goal.invariant-loop-template
invariant-loop-template g l =
    map (λ t. t.now) l.only.items
    ++ only_in_first body_id (map (λ t. t.now) (drop l.template-index l.templates)) (templates_of l.other)
    ≡ only_in_first body_id (map (λ t. t.now) l.templates) (templates_of l.other)
