use Rattle.std.proofs.Common.{◌≡◌}
use Rattle.cedar_policy_maps.proofs.bulk_insert.share_all.Given as goal

abbrev pub invariant-loop-place : goal.invariant-loop-place
invariant-loop-place g l = l.links.entries ≡ l.initial.links.entries
