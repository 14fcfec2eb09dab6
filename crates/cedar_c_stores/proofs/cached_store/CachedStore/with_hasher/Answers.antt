use Rattle.cedar_entity_maps.specs.InputStore.{empty_input}
use Rattle.cedar_c_stores.proofs.cached_store.CachedStore.with_hasher.Goals as goal

pub invariant_of-result : goal.invariant_of-result
invariant_of-result g c = (λ _. (empty_input, c.with_hasher.ensures.plain), c.new.ensures c.with_hasher.result)
