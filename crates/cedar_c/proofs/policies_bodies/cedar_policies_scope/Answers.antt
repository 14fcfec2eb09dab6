use Rattle.cedar_c.proofs.PolicyChanges.{changed_and_counted}
use Rattle.cedar_c.proofs.policies_bodies.cedar_policies_scope.Goals as goal

pub returns-in-Some : goal.returns-in-Some
returns-in-Some c =
    changed_and_counted _ c.scope.result _ _ _ c.in-Some.ensures.value c.deref_mut.ensures.value c.opened.ensures
    c.write_result-result.ensures c.scope.ensures
