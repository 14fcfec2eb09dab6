use Rattle.cedar_c.proofs.StoreChanges.{changed}
use Rattle.cedar_c.proofs.store_numbers.cedar_store_number_uid.Goals as goal

pub returns-in-Some : goal.returns-in-Some
returns-in-Some c =
    changed _ c.number_uid.result c.in-Some.ensures.value c.deref_mut.ensures.value c.opened.ensures
    c.status_of-result.ensures c.number_uid.ensures
