-- The code by which a proof distinguishes stores.
use Rattle.std.specs.Prelude.{Bool}
use Rattle.std.proofs.Common.{refl}
use Rattle.std.specs.Coded.{Coded, code_by, coded×, coded_bool}
use Rattle.std.specs.FinMap as finmap
use Rattle.cedar_ids.specs.Codes.{uid_code}
use Rattle.cedar_entity.specs.Codes.{view_code}
use Rattle.cedar_entity_maps.specs.Plain.{StoreView, EntityMap}

-- The code of a store: its entity map, whether it is partial, and whether it is known to be plain.
abbrev pub store_code : Coded StoreView
store_code = code_by (EntityMap × (Bool × Bool)) (coded× (finmap.code uid_code view_code) (coded× coded_bool coded_bool))
    (λ s. (s.entities, (s.partial, s.known_plain)))
    (λ p. record { entities = p.0; partial = p.1.0; known_plain = p.1.1 }) (λ _. refl)
