use Rattle.std.proofs.Common.{◌≡◌, subst}
use Rattle.std.specs.Result.{IfOk}
use Rattle.cedar_entity_maps.specs.Plain.{StoreView}
use Rattle.cedar_entities.specs.StoreFaults.{IsValidStore}
use Rattle.cedar_c_stores.proofs.cached_store.CachedStore.try_validate.Goals as goal

pub returns-clause-ok : goal.returns-clause-ok
returns-clause-ok g c = subst (λ (S : StoreView). IfOk c.try_validate.result (λ s. (s ≡ S) × IsValidStore S.entities))
    c.self.view_is c.try_validate.ensures.ok
