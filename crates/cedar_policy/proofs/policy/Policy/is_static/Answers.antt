use Rattle.cedar_policy.specs.laws.PolicySlots.{unlinked_is_static}
use Rattle.cedar_policy.proofs.policy.Policy.is_static.Goals as goal

pub returns-clause-whole : goal.returns-clause-whole
returns-clause-whole c = unlinked_is_static c.args.self.now (rw c.self.view_is at c.self.invariant)
