use Rattle.std.proofs.Common.{All, arith, subst}
use Rattle.std.proofs.lemmas.List.{take_all}
use Rattle.std.proofs.lemmas.List.Elements.{All-more}
use Rattle.cedar_policy_maps.specs.laws.RawMaps.{IsWhole}
use Rattle.cedar_policy_maps.proofs.lists.read_policies.Goals as goal

pub loop-policy-preserved : goal.loop-policy-preserved
loop-policy-preserved c =
    All-more IsWhole c.args.policies.now c.loop-policy.policy-index c.policy-item.result
    (omega arith) c.loop-policy.invariant
    (subst IsWhole c.policy-item.is c.read_policy.ensures)

pub returns : goal.returns
returns c =
    subst (All IsWhole) (take_all c.loop-policy.policy-index c.args.policies.now (omega arith)) c.loop-policy.invariant
