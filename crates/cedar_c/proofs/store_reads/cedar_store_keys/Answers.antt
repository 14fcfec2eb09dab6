use Rattle.cedar_c.proofs.StoreChanges.{changed}
use Rattle.cedar_c.proofs.store_reads.cedar_store_keys.Goals as goal

pub returns-in-Some : goal.returns-in-Some
returns-in-Some c =
    changed _ c.keys.result c.in-Some.ensures.value c.deref_mut.ensures.value c.opened.ensures
    c.status_of-result.ensures c.keys.ensures
