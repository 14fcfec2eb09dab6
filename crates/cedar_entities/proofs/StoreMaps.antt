-- The hash map of a store, and the finite map in contracts.
use Rattle.std.specs.Prelude.{◌≡◌, ◌+◌, true, false, cond, List, [], ◌∷◌, Option, Some, None, map, length}
use Rattle.std.proofs.Common.{arith, ap, sym, refl, subst, ◌∙◌}
use Rattle.std.proofs.lemmas.List.{length-map}
use Rattle.std.proofs.lemmas.Map.Made.{keys_of-map_values}
use Rattle.std.specs.Option.{option_or, option_map, IfSome, is_some}
use Rattle.std.specs.HashMap.{HashMap, get, keys, hash_map_len}
use Rattle.std.specs.List.{AllByRecursion, IsDistinct}
use Rattle.std.specs.Map.{lookup, keys_of}
use Rattle.std.specs.FinMap as finmap
use Rattle.cedar_ids.specs.UidOf.{same_uid, uid_order}
use Rattle.cedar_ids.specs.laws.UidOfLaws.{uid_order_total}
use Rattle.cedar_ids.specs.declared.entity.EntityUID.{EntityUID}
use Rattle.cedar_entity.specs.declared.node.SharedEntity.{SharedEntity}
use Rattle.cedar_entity_maps.specs.laws.EntityMap.{held_map, shared, UidsMatch}
use Rattle.cedar_entity_maps.specs.Plain.{EntityMap, IsKeyed, keyed}
use Rattle.cedar_entities.specs.Present.{first_entity, with_first}
use Rattle.cedar_uid_sets.specs.laws.Sets.{same_tests}
use Rattle.cedar_entity.specs.View.{EntityView}
use Rattle.cedar_entity_maps.specs.laws.InputStores.{get_joined}
use Rattle.cedar_entity_maps.specs.laws.Seen.{get_seen, seen_as}
use Rattle.cedar_entity_maps.specs.laws.Keyed.{key_at}

pub seen_empty : {S : Type 0} (m : HashMap EntityUID SharedEntity S) → m.entries ≡ [] → held_map m ≡ finmap.empty
seen_empty m e =
    seen_as m finmap.empty (λ q. ap (λ es. option_map shared (lookup (same_uid q) es)) e
    ∙ sym (finmap.get-empty uid_order q))

pub seen_keyed : {S : Type 0} (m : HashMap EntityUID SharedEntity S) → UidsMatch m → IsKeyed (held_map m)
seen_keyed m h q = subst (λ o. IfSome o (λ e. e.uid ≡ q)) (sym (get_seen m q)) (key_at q (get same_uid m q) (h q))

-- After an addition, a uid has its old entity or, if there is none, the first entity of the list.
pub get_with_first : (D : EntityMap) (L : List EntityView) (q : EntityUID)
    → finmap.get (with_first D L) q ≡ option_or (finmap.get D q) (first_entity L q)
get_with_first D L q = get_joined (finmap.entries D) (map keyed L) q
    ∙ ap (λ o. option_or o (first_entity L q)) (sym (finmap.get-entries D q))

absent_key : {X : Type 0} (k : EntityUID) (es : List (EntityUID × X))
    → AllByRecursion (λ y. same_uid k y ≡ false) (keys_of es) → finmap.find uid_order k es ≡ None
absent_key k [] h = refl
absent_key k (e ∷ es) h =
    ap (λ f. cond (f k e.0) (Some e.1) (finmap.find uid_order k es)) same_tests
    ∙ ap (λ b. cond b (Some e.1) (finmap.find uid_order k es)) h.0 ∙ absent_key k es h.1

-- A finite map from entries with distinct keys has as many entries.
pub len_listed : {X : Type 0} (es : List (EntityUID × X)) → IsDistinct same_uid (keys_of es)
    → finmap.len (finmap.from_entries {R = uid_order} es) ≡ length es
unfolding IsDistinct
len_listed {X} [] h = finmap.len-empty uid_order X
len_listed (e ∷ es) h =
    let out : finmap.contains_key (finmap.from_entries {R = uid_order} es) e.0 ≡ false =
    ap is_some (finmap.get-from_entries uid_order_total es e.0 ∙ absent_key e.0 es h.0) in
    let more : finmap.len (finmap.from_entries {R = uid_order} es) + 1 ≡ length (e ∷ es) =
    omega (arith, len_listed es h.1) in
    finmap.len-insert uid_order_total (finmap.from_entries es) e.0 e.1
    ∙ ap (λ b. cond b (finmap.len (finmap.from_entries {R = uid_order} es))
    (finmap.len (finmap.from_entries {R = uid_order} es) + 1)) out ∙ more

-- The finite map has as many entries as the map.
pub len_seen : {S : Type 0} (m : HashMap EntityUID SharedEntity S) → IsDistinct same_uid (keys m)
    → hash_map_len m ≡ finmap.len (held_map m)
len_seen m distinct =
    sym (length-map {B = EntityUID × EntityView} m.entries (λ e. (e.0, shared e.1)))
    ∙ sym (len_listed (map (λ e. (e.0, shared e.1)) m.entries)
    (subst (IsDistinct same_uid) (sym (keys_of-map_values shared m.entries)) distinct))
