use Rattle.cedar_c.proofs.StoreChanges.{became_partial}
use Rattle.cedar_c.proofs.store_reads.cedar_store_partial.Goals as goal

pub returns-in-Some : goal.returns-in-Some
returns-in-Some c =
    became_partial c.in-Some.ensures.value c.deref_mut.ensures.value c.opened.ensures c.make_partial.ensures.partial
