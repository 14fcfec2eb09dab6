-- The list of the entities of a store.
use Rattle.std.specs.Prelude.{◌≡◌, true, List, [], ◌∷◌, Some, map}
use Rattle.std.proofs.Common.{ap, sym, refl, subst, ◌∙◌}
use Rattle.std.proofs.lemmas.List.{length-map}
use Rattle.std.specs.Option.{IfSome}
use Rattle.std.specs.HashMap.{HashMap, get, keys}
use Rattle.std.specs.List.{AllByRecursion, All, IsDistinct}
use Rattle.std.proofs.lemmas.List.Elements.{recursion_from_All}
use Rattle.std.specs.FinMap as finmap
use Rattle.cedar_ids.specs.UidOf.{same_uid}
use Rattle.cedar_ids.specs.laws.UidOfLaws.{same_uid_decides}
use Rattle.cedar_ids.specs.declared.entity.EntityUID.{EntityUID}
use Rattle.cedar_entity.specs.declared.node.SharedEntity.{SharedEntity}
use Rattle.cedar_entities.specs.Answers.{ListsEntityMap}
use Rattle.cedar_entity_maps.specs.laws.EntityMap.{held_map, shared, UidsMatch}
use Rattle.cedar_entity_maps.specs.Plain.{keyed}
use Rattle.cedar_entity.specs.View.{EntityView}
use Rattle.cedar_entities.proofs.StoreMaps.{len_seen}

listed_keyed : {S : Type 0} (m : HashMap EntityUID SharedEntity S) → UidsMatch m
    → (es : List (EntityUID × SharedEntity)) → AllByRecursion (λ e. get same_uid m e.0 ≡ Some e.1) es
    → map keyed (map (λ e. shared e.1) es) ≡ map (λ e. (e.0, shared e.1)) es
listed_keyed m match [] h = refl
listed_keyed m match (e ∷ es) h =
    let same : same_uid e.0 (shared e.1).uid ≡ true =
    subst (λ o. IfSome o (λ v. same_uid e.0 (shared v).uid ≡ true)) h.0 (match e.0) in
    λ i. (sym ((same_uid_decides e.0 (shared e.1).uid).0 same) i, shared e.1) ∷ listed_keyed m match es h.1 i

-- The entities of the entries, each once.
pub lists_held : {S : Type 0} (m : HashMap EntityUID SharedEntity S) → UidsMatch m
    → All (λ e. get same_uid m e.0 ≡ Some e.1) m.entries → IsDistinct same_uid (keys m)
    → ListsEntityMap (held_map m) (map (λ e. shared e.1) m.entries)
lists_held m match found distinct = record {
  entities =
      ap (λ es. finmap.from_entries es)
      (listed_keyed m match m.entries (recursion_from_All (λ e. get same_uid m e.0 ≡ Some e.1) m.entries found));
  once = length-map {B = EntityView} m.entries (λ e. shared e.1) ∙ len_seen m distinct;
}
