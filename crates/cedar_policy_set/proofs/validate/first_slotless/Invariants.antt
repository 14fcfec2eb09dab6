use Rattle.std.proofs.Common.{◌≡◌}
use Rattle.std.specs.List.{find}
use Rattle.cedar_policy_set.specs.Validity.{is_slotless_link}
use Rattle.cedar_policy_set.proofs.validate.first_slotless.Given as goal

abbrev pub invariant-loop-policy : goal.invariant-loop-policy
invariant-loop-policy l = find is_slotless_link l.policy-iterator ≡ find is_slotless_link l.fn.policies
