use Rattle.cedar_deep_copy_stores.proofs.Stored.{holds_all}
use Rattle.cedar_deep_copy_stores.proofs.store.deep_copy_map.Goals as goal

pub returns-in-Ok-clause-entities : goal.returns-in-Ok-clause-entities
returns-in-Ok-clause-entities g c =
    holds_all c.args.store.now.entities c.iter.result c.in_ok-list.list.items c.in-Ok.made c.iter.ensures.lists
    c.in_ok-list.ensures c.in-Ok.ensures.adds.ok
