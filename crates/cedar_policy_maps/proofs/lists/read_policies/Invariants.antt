use Rattle.std.proofs.Common.{All, take}
use Rattle.cedar_policy_maps.specs.laws.RawMaps.{IsWhole}
use Rattle.cedar_policy_maps.proofs.lists.read_policies.Given as goal

abbrev pub invariant-loop-policy : goal.invariant-loop-policy
invariant-loop-policy l = All IsWhole (take l.policy-index l.policies)
