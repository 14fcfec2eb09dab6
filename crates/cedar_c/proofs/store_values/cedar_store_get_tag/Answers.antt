use Rattle.cedar_c.proofs.StoreChanges.{changed_telling}
use Rattle.cedar_c.proofs.store_values.cedar_store_get_tag.Goals as goal

pub returns-in-Some : goal.returns-in-Some
returns-in-Some c =
    changed_telling _ c.get_tag.result _ _ _ c.in-Some.ensures.value c.deref_mut.ensures.value c.opened.ensures
    c.write_bool-result.ensures c.get_tag.ensures
