use Rattle.std.proofs.Common.{◌≡◌, ◌++◌, map, drop}
use Rattle.cedar_policy.specs.Policies.{policy_id}
use Rattle.cedar_c_sets.proofs.naming.texts_of_policies.Given as goal

abbrev pub invariant-loop-policy : goal.invariant-loop-policy
invariant-loop-policy l =
    l.answer ++ map (λ p. policy_id p.now) (drop l.policy-index l.policies)
    ≡ map (λ p. policy_id p.now) l.policies
