use Rattle.cedar_c.proofs.StoreChanges.{changed}
use Rattle.cedar_c.proofs.store_queries.cedar_store_descendants_of_type.Goals as goal

pub returns-in-Some : goal.returns-in-Some
returns-in-Some c =
    changed _ c.descendants_of_type.result c.in-Some.ensures.value c.deref_mut.ensures.value c.opened.ensures
    c.status_of-result.ensures c.descendants_of_type.ensures
