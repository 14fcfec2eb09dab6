-- The number of entities of a plain store.
use Rattle.std.specs.Prelude.{◌≡◌, Option, Some, None, map}
use Rattle.std.proofs.Common.{ap, sym, refl, subst, ◌∙◌}
use Rattle.std.proofs.lemmas.List.{length-map}
use Rattle.std.proofs.lemmas.Map.Made.{keys_of-map_values}
use Rattle.std.specs.Option.{option_map}
use Rattle.std.specs.HashMap.{HashMap, keys, hash_map_len}
use Rattle.std.specs.List.{IsDistinct}
use Rattle.std.specs.FinMap as finmap
use Rattle.cedar_ids.specs.UidOf.{same_uid, uid_order}
use Rattle.cedar_ids.specs.laws.UidOfLaws.{uid_order_total}
use Rattle.cedar_ids.specs.declared.entity.EntityUID.{EntityUID}
use Rattle.cedar_entity.specs.declared.node.SharedEntity.{SharedEntity}
use Rattle.cedar_entity_maps.specs.laws.EntityMap.{held_map, shared}
use Rattle.cedar_entity_maps.specs.Plain.{StoreView, EntityMap, IsPlainStore, parts_of}
use Rattle.cedar_uid_sets.specs.laws.Sets.{one_equal}
use Rattle.cedar_entity_maps.specs.InputStore.{InputStore, Parts}
use Rattle.cedar_entities.proofs.StoreMaps.{len_listed}
use Rattle.cedar_entity_maps.specs.laws.InputStores.{find-mapped}

node_parts : SharedEntity → Parts
node_parts n = parts_of (shared n)

parts_at : (o : Option SharedEntity) → option_map parts_of (option_map shared o) ≡ option_map node_parts o
unfolding node_parts
parts_at None = refl
parts_at (Some n) = refl

-- The map of a plain store has as many entries as the input store.
pub plain_len : {S : Type 0} (m : HashMap EntityUID SharedEntity S) (W : InputStore) (T : StoreView) → held_map m ≡ T.entities
    → IsDistinct same_uid (keys m) → IsPlainStore W T → hash_map_len m ≡ finmap.len W.entities
plain_len m W T is distinct plain =
    let same : W.entities ≡ finmap.from_entries (map (λ e. (e.0, node_parts e.1)) m.entries) =
    finmap.same_map uid_order_total one_equal _ _ (λ q.
    sym (plain.holds q) ∙ ap (λ (D : EntityMap). option_map parts_of (finmap.get D q)) (sym is)
    ∙ ap (option_map parts_of) (finmap.get-from_entries uid_order_total (map (λ e. (e.0, shared e.1)) m.entries) q
    ∙ find-mapped shared m.entries q)
    ∙ parts_at (finmap.find uid_order q m.entries)
    ∙ sym (find-mapped node_parts m.entries q)
    ∙ sym (finmap.get-from_entries uid_order_total (map (λ e. (e.0, node_parts e.1)) m.entries) q)) in
    sym (length-map {B = EntityUID × Parts} m.entries (λ e. (e.0, node_parts e.1)))
    ∙ sym (len_listed (map (λ e. (e.0, node_parts e.1)) m.entries)
    (subst (IsDistinct same_uid) (sym (keys_of-map_values node_parts m.entries)) distinct)) ∙ ap finmap.len (sym same)
