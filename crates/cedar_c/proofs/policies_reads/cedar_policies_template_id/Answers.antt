use Rattle.cedar_c.proofs.PolicyChanges.{changed}
use Rattle.cedar_c.proofs.policies_reads.cedar_policies_template_id.Goals as goal

pub returns-in-Some : goal.returns-in-Some
returns-in-Some c =
    changed _ c.template_id.result c.in-Some.ensures.value c.deref_mut.ensures.value c.opened.ensures
    c.status_of-result.ensures c.template_id.ensures
