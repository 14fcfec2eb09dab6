-- The contents of a store that is made from the entities of another store.
use Rattle.std.specs.Prelude.{◌≡◌, List, [], map, false}
use Rattle.std.proofs.Common.{ap, sym, ◌∙◌}
use Rattle.std.specs.FinMap as finmap
use Rattle.std.specs.Option.{option_or}
use Rattle.cedar_ids.specs.UidOf.{uid_order}
use Rattle.cedar_ids.specs.laws.UidOfLaws.{uid_order_total}
use Rattle.cedar_uid_sets.specs.laws.Sets.{one_equal}
use Rattle.cedar_entity.specs.View.{EntityView}
use Rattle.cedar_entities.specs.Answers.{ListsEntityMap}
use Rattle.cedar_entity_maps.specs.Plain.{EntityMap, StoreView, no_entities}
use Rattle.cedar_entities.specs.Present.{first_entity, with_first}
use Rattle.cedar_entity_maps.specs.Plain.{keyed}
use Rattle.cedar_entity_maps.specs.laws.InputStores.{get_joined}

-- If the entity map is empty, adding a list gives the entity map of the list.
first_alone : (L : List EntityView) → with_first no_entities L ≡ finmap.from_entries (map keyed L)
first_alone L =
    finmap.same_map uid_order_total one_equal (with_first no_entities L) (finmap.from_entries (map keyed L)) (λ q.
    get_joined (finmap.entries no_entities) (map keyed L) q
    ∙ ap (λ o. option_or o (first_entity L q)) (sym (finmap.get-entries no_entities q) ∙ finmap.get-empty uid_order q)
    ∙ sym (get_joined [] (map keyed L) q))

-- A store made from all entities of an entity map has that entity map.
pub holds_all : (D : EntityMap) (es copies : List EntityView) (s : StoreView) → ListsEntityMap D es → copies ≡ es
    → s.entities ≡ with_first no_entities copies → s.entities ≡ D
holds_all D es copies s lists same is = is ∙ ap (with_first no_entities) same ∙ first_alone es ∙ lists.entities

-- With the same partial flag, it differs from the other store only in what it knows.
pub as_partial : (whole copied copy : StoreView) → copied.entities ≡ whole.entities
    → copy ≡ record copied { partial = whole.partial } → copy ≡ record whole { known_plain = copied.known_plain }
as_partial whole copied copy is flagged =
    flagged ∙ λ i. record { entities = is i; partial = whole.partial; known_plain = copied.known_plain }

-- If it knows the same, it is equal to the other store.
pub as_known : (whole copied copy known : StoreView) → copied.entities ≡ whole.entities
    → copy ≡ record copied { partial = whole.partial } → known ≡ record copy { known_plain = whole.known_plain }
    → known ≡ whole
as_known whole copied copy known is flagged knows =
    knows ∙ ap (λ (s : StoreView). record s { known_plain = whole.known_plain }) (as_partial whole copied copy is flagged)
