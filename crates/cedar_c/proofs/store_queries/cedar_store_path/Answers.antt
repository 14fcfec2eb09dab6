use Rattle.cedar_c.proofs.StoreChanges.{changed_telling}
use Rattle.cedar_c.proofs.store_queries.cedar_store_path.Goals as goal

pub returns-in-Some : goal.returns-in-Some
returns-in-Some c =
    changed_telling _ c.path.result _ _ _ c.in-Some.ensures.value c.deref_mut.ensures.value c.opened.ensures
    c.write_bool-result.ensures c.path.ensures
