use Rattle.std.specs.Prelude.{◌≡◌}
use Rattle.cedar_policy_maps.specs.PolicySets.{empty_set}
use Rattle.cedar_c_sets.specs.Sets.{IsUntold}
use Rattle.cedar_c.specs.PolicyCalls.{HandleState}
use Rattle.cedar_c.proofs.PolicyChanges.{holds}
use Rattle.cedar_c.proofs.policies.cedar_policies_new.Goals as goal

pub returns-clause-new : goal.returns-clause-new
returns-clause-new c zero =
    holds (λ (k : HandleState). k.set ≡ empty_set) c.new-state.result c.args.handle.now.held.value c.fill.new.handle.held.value
    c.fill.result c.new-state.ensures.set c.fill.ensures zero

pub returns-clause-untold : goal.returns-clause-untold
returns-clause-untold c zero =
    holds (λ (k : HandleState). IsUntold k) c.new-state.result c.args.handle.now.held.value c.fill.new.handle.held.value
    c.fill.result (c.new-state.ensures.answer, c.new-state.ensures.refusal, c.new-state.ensures.nodes) c.fill.ensures zero
