use Rattle.cedar_c_stores.proofs.cached_store.CachedStore.of.Goals as goal

pub invariant_of-result : goal.invariant_of-result
invariant_of-result g c = (c.requires, c.new.ensures c.args.entities)
