use Rattle.std.proofs.Common.{refl, subst}
use Rattle.cedar_entity_maps.specs.Plain.{StoreView}
use Rattle.cedar_entities.specs.StoreFaults.{IsValidStore}
use Rattle.cedar_c_stores.proofs.store_state.StoreState.validate.Goals as goal

pub returns-in-Ok : goal.returns-in-Ok
returns-in-Ok g c =
    (subst (λ (S : StoreView). IsValidStore S.entities) c.in_ok-copy.ensures c.in-Ok.ensures.ok.1, refl)
