use Rattle.std.specs.Prelude.{◌≡◌, ◌++◌, map}
use Rattle.cedar_policy.specs.Policies.{policy_id}
use Rattle.cedar_policy_merge.specs.Merge.{policy_ids}
use Rattle.cedar_c_sets.proofs.set_state.policy_texts.Given as goal

abbrev pub invariant-loop-policy : goal.invariant-loop-policy
invariant-loop-policy g l = l.answer ++ map policy_id l.policy-iterator ≡ policy_ids l.set
