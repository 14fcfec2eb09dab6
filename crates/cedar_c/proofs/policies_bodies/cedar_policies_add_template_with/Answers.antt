use Rattle.cedar_c.proofs.PolicyChanges.{changed}
use Rattle.cedar_c.proofs.policies_bodies.cedar_policies_add_template_with.Goals as goal

pub returns-in-Some : goal.returns-in-Some
returns-in-Some c =
    changed _ c.add_template_with.result c.in-Some.ensures.value c.deref_mut.ensures.value c.opened.ensures
    c.status_of-result.ensures c.add_template_with.ensures
