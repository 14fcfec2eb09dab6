use Rattle.cedar_c.proofs.StoreChanges.{changed_giving}
use Rattle.cedar_c.proofs.store_numbers.cedar_store_uid_number.Goals as goal

pub returns-in-Some : goal.returns-in-Some
returns-in-Some c =
    changed_giving _ c.uid_number.result _ _ _ c.in-Some.ensures.value c.deref_mut.ensures.value c.opened.ensures
    c.write_result-result.ensures c.uid_number.ensures
