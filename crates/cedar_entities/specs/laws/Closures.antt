-- An entity map whose ancestors are the closure of another one.
use Rattle.std.specs.Prelude.{◌≡◌, ◌↔◌, true}
use Rattle.std.specs.Option.{option_map}
use Rattle.std.specs.FinMap as finmap
use Rattle.cedar_graph.specs.Graph.{Reach}
use Rattle.cedar_ids.specs.declared.entity.EntityUID.{EntityUID}
use Rattle.cedar_entity.specs.View.{unchanged_parts}
use Rattle.cedar_entity_maps.specs.Modes.{ancestry}
use Rattle.cedar_entity_maps.specs.Plain.{EntityMap}

-- Holds if N has the entities of D with the same attributes, tags and parents, and their ancestors are exactly the uids
-- reached over ancestors in D. No uid reaches itself. A parent is also an indirect ancestor only if it was one in D.
pub record IsClosureOf (D N : EntityMap) : Type 0 where
  pub parts : (q : EntityUID) → option_map unchanged_parts (finmap.get N q) ≡ option_map unchanged_parts (finmap.get D q)
  pub ancestors : (a b : EntityUID) → (ancestry N a b ≡ true) ↔ Reach (ancestry D) a b
  pub acyclic : (v : EntityUID) → Reach (ancestry D) v v → ⊥
