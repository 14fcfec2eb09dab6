use Rattle.cedar_c.proofs.PolicyChanges.{changed_by}
use Rattle.cedar_c.proofs.policies_deep_copy.cedar_policies_merge_deep_copy.Goals as goal

pub returns-in-Some-take-clause-merges : goal.returns-in-Some-take-clause-merges
returns-in-Some-take-clause-merges c =
    changed_by _ c.merge_deep_copy.result c.in-Some-take.ensures.value c.deref.ensures c.in-Some.ensures.value c.deref_mut.ensures.value
    c.opened-in-Some-take.ensures c.status_of-result.ensures c.merge_deep_copy.ensures
