-- The hash map of a store as the finite map in contracts.
use Rattle.std.specs.Prelude.{◌≡◌, cond, List, [], ◌∷◌, Option, None, Some, map}
use Rattle.std.proofs.Common.{ap, sym, refl, ◌∙◌}
use Rattle.std.specs.Option.{option_map, is_some}
use Rattle.std.specs.HashMap.{HashMap}
use Rattle.std.specs.Map.{lookup}
use Rattle.std.specs.FinMap as finmap
use Rattle.cedar_ids.specs.UidOf.{same_uid, uid_order}
use Rattle.cedar_ids.specs.laws.UidOfLaws.{uid_order_total}
use Rattle.cedar_ids.specs.declared.entity.EntityUID.{EntityUID}
use Rattle.cedar_entity.specs.declared.node.SharedEntity.{SharedEntity}
use Rattle.cedar_entity_maps.specs.laws.EntityMap.{entity_at, held_map, shared}
use Rattle.cedar_entity_maps.specs.Plain.{EntityMap}
use Rattle.cedar_uid_sets.specs.laws.Sets.{same_tests, one_equal}
use Rattle.cedar_entity_maps.specs.laws.InputStores.{find-mapped}

found : (es : List (EntityUID × SharedEntity)) (q : EntityUID) → finmap.find uid_order q es ≡ lookup (same_uid q) es
found [] q = refl
found (e ∷ es) q = ap (λ f. cond (f q e.0) (Some e.1) (finmap.find uid_order q es)) same_tests
    ∙ ap (cond (same_uid q e.0) (Some e.1)) (found es q)

-- The finite map has the same entities as the map.
pub get_seen : {S : Type 0} (m : HashMap EntityUID SharedEntity S) (q : EntityUID)
    → finmap.get (held_map m) q ≡ entity_at m q
get_seen m q =
    finmap.get-from_entries uid_order_total (map (λ e. (e.0, shared e.1)) m.entries) q
    ∙ find-mapped shared m.entries q ∙ ap (option_map shared) (found m.entries q)

-- A map with the entities of a finite map is described by that finite map.
pub seen_as : {S : Type 0} (m : HashMap EntityUID SharedEntity S) (D : EntityMap)
    → ((q : EntityUID) → entity_at m q ≡ finmap.get D q) → held_map m ≡ D
seen_as m D h = finmap.same_map uid_order_total one_equal (held_map m) D (λ q. get_seen m q ∙ h q)

-- The entities of the map of a store, from its entity map.
pub stored : {S : Type 0} (m : HashMap EntityUID SharedEntity S) (D : EntityMap) → held_map m ≡ D → entity_at m ≡ finmap.get D
stored m D is = (λ i q. sym (get_seen m q) i) ∙ ap (λ (E : EntityMap). finmap.get E) is

pub some_shared : (o : Option SharedEntity) → is_some o ≡ is_some (option_map shared o)
some_shared None = refl
some_shared (Some n) = refl
