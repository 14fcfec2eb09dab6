use Rattle.std.specs.Prelude.{◌≡◌, ◌++◌, map}
use Rattle.cedar_policy_merge.specs.Merge.{body_ids}
use Rattle.cedar_c_sets.proofs.set_state.body_texts.Given as goal

abbrev pub invariant-loop-template : goal.invariant-loop-template
invariant-loop-template g l = l.answer ++ map (λ t. t.id) l.template-iterator ≡ body_ids l.set
