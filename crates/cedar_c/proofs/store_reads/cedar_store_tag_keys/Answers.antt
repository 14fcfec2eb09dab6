use Rattle.cedar_c.proofs.StoreChanges.{changed}
use Rattle.cedar_c.proofs.store_reads.cedar_store_tag_keys.Goals as goal

pub returns-in-Some : goal.returns-in-Some
returns-in-Some c =
    changed _ c.tag_keys.result c.in-Some.ensures.value c.deref_mut.ensures.value c.opened.ensures
    c.status_of-result.ensures c.tag_keys.ensures
