-- The map of a store as contracts describe it.
use Rattle.std.specs.Prelude.{map, Option}
use Rattle.std.specs.Option.{option_map}
use Rattle.std.specs.HashMap.{HashMap, get}
use Rattle.std.specs.FinMap as finmap
use Rattle.cedar_graph.specs.Graph.{KeysMatch}
use Rattle.cedar_ids.specs.UidOf.{same_uid}
use Rattle.cedar_ids.specs.declared.entity.EntityUID.{EntityUID}
use Rattle.cedar_entity.specs.View.{EntityView}
use Rattle.cedar_entity_maps.specs.Plain.{EntityMap}
use Rattle.cedar_entity.specs.declared.node.SharedEntity.{SharedEntity}

-- The content of a shared entity.
abbrev pub shared : SharedEntity → EntityView
shared s = s.0.value

-- The entity at a uid of the map.
abbrev pub entity_at : {S : Type 0} → HashMap EntityUID SharedEntity S → EntityUID → Option EntityView
entity_at m q = option_map shared (get same_uid m q)

-- The entries of the map as a finite map.
abbrev pub held_map : {S : Type 0} → HashMap EntityUID SharedEntity S → EntityMap
held_map m = finmap.from_entries (map (λ e. (e.0, shared e.1)) m.entries)

-- Holds if each key of the map is the uid of its entity.
abbrev pub UidsMatch : {S : Type 0} → HashMap EntityUID SharedEntity S → Type 0
UidsMatch m = KeysMatch same_uid (λ e. (shared e).uid) m
