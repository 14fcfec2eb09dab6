-- A code for a store with its queue, which determines both.
use Rattle.std.specs.Prelude.{List, refl}
use Rattle.std.specs.Coded.{Coded, code_by, coded×, coded_list}
use Rattle.cedar_entity.specs.Codes.{view_code}
use Rattle.cedar_entity.specs.View.{EntityView}
use Rattle.cedar_entities.specs.Codes.{store_code}
use Rattle.cedar_entity_maps.specs.Plain.{StoreView}
use Rattle.cedar_entity_lines.specs.Holding.{StoreAndWaiting}

-- The code of the queued entities and the store.
abbrev pub waiting_code : Coded StoreAndWaiting
waiting_code =
    code_by (List EntityView × StoreView) (coded× (coded_list view_code) store_code) (λ m. (m.waiting, m.store))
    (λ r. record { waiting = r.0; store = r.1 }) (λ _. refl)
