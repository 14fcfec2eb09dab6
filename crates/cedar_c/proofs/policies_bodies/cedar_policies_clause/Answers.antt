use Rattle.cedar_c.proofs.PolicyChanges.{changed_and_told}
use Rattle.cedar_c.proofs.policies_bodies.cedar_policies_clause.Goals as goal

pub returns-in-Some : goal.returns-in-Some
returns-in-Some c =
    changed_and_told _ c.clause.result _ _ _ c.in-Some.ensures.value c.deref_mut.ensures.value c.opened.ensures
    c.write_bool-result.ensures c.clause.ensures
