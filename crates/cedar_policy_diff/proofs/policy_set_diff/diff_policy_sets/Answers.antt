use Rattle.cedar_policy_diff.specs.laws.DiffLaws.{applies_if, empty_if}
use Rattle.cedar_policy_diff.proofs.policy_set_diff.diff_policy_sets.Goals as goal

pub returns-clause-applies : goal.returns-clause-applies
returns-clause-applies g c =
    applies_if c.args.before.now c.args.after.now c.in_ok-difference.field-0 c.is_empty-whole.ensures.policy_set
    c.in_ok-difference.ensures

pub returns-clause-empty : goal.returns-clause-empty
returns-clause-empty g c =
    empty_if c.args.before.now c.args.after.now c.in_ok-difference.field-0 c.is_empty-whole.ensures.policy_set
    c.in_ok-difference.ensures
