use Rattle.cedar_c.proofs.PolicyChanges.{changed}
use Rattle.cedar_c.proofs.policies_bodies.cedar_policies_condition.Goals as goal

pub returns-in-Some : goal.returns-in-Some
returns-in-Some c =
    changed _ c.condition.result c.in-Some.ensures.value c.deref_mut.ensures.value c.opened.ensures
    c.status_of-result.ensures c.condition.ensures
