use Rattle.cedar_c.proofs.PolicyChanges.{changed}
use Rattle.cedar_c.proofs.policies_naming.cedar_policies_templates_naming.Goals as goal

pub returns-in-Some : goal.returns-in-Some
returns-in-Some c =
    changed _ c.templates_naming.result c.in-Some.ensures.value c.deref_mut.ensures.value c.opened.ensures
    c.status_of-result.ensures c.templates_naming.ensures
