use Rattle.std.proofs.Common.{◌∙◌, ap}
use Rattle.std.specs.List.{find}
use Rattle.cedar_policy.specs.PolicyEquality.{same_policy}
use Rattle.cedar_policy_maps.specs.PolicySets.{is_policy_at}
use Rattle.cedar_policy_diff.specs.ListDiff.{change}
use Rattle.cedar_policy_diff.proofs.changes.policy_change.Goals as goal

pub returns : goal.returns
returns g c =
    c.change.ensures
    ∙ ap (λ o. change same_policy o c.args.after.now)
    (c.get.ensures ∙ ap (λ i. find (is_policy_at i) c.args.before.now.policies) c.id.ensures)
