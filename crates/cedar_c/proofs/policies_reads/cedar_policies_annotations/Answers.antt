use Rattle.cedar_c.proofs.PolicyChanges.{changed}
use Rattle.cedar_c.proofs.policies_reads.cedar_policies_annotations.Goals as goal

pub returns-in-Some : goal.returns-in-Some
returns-in-Some c =
    changed _ c.annotations.result c.in-Some.ensures.value c.deref_mut.ensures.value c.opened.ensures
    c.status_of-result.ensures c.annotations.ensures
