use Rattle.std.proofs.Common.{◌≡◌}
use Rattle.cedar_policy_maps.proofs.bulk_insert.replace_equal_policies.Given as goal

abbrev pub invariant-loop-policy : goal.invariant-loop-policy
invariant-loop-policy g l = l.links.entries ≡ l.initial.links.entries
