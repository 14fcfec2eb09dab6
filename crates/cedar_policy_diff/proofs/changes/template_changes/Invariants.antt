use Rattle.std.proofs.Common.{◌≡◌, ◌++◌, map, drop}
use Rattle.cedar_body.specs.BodyEquality.{same_body}
use Rattle.cedar_policy_diff.specs.Diff.{body_id, templates_of}
use Rattle.cedar_policy_diff.specs.ListDiff.{changes}
use Rattle.cedar_policy_diff.specs.Views.{pair_of}
use Rattle.cedar_policy_diff.proofs.changes.template_changes.Given as goal

abbrev pub invariant-loop-template : goal.invariant-loop-template
invariant-loop-template g l =
    map pair_of l.changes.items
    ++ changes body_id same_body (templates_of l.before) (map (λ t. t.now) (drop l.template-index l.templates))
    ≡ changes body_id same_body (templates_of l.before) (map (λ t. t.now) l.templates)
