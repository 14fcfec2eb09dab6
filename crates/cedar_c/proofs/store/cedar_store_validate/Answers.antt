use Rattle.cedar_c.proofs.StoreChanges.{changed}
use Rattle.cedar_c.proofs.store.cedar_store_validate.Goals as goal

pub returns-in-Some : goal.returns-in-Some
returns-in-Some c =
    changed _ c.validate.result c.in-Some.ensures.value c.deref_mut.ensures.value c.opened.ensures
    c.status_of-result.ensures c.validate.ensures
