use Rattle.std.proofs.Common.{subst}
use Rattle.std.specs.Prelude.{◌↔◌, IsTrue}
use Rattle.cedar_graph.specs.Graph.{Reach}
use Rattle.cedar_entity_maps.specs.Plain.{StoreView}
use Rattle.cedar_queries.specs.Queries.{parent_graph}
use Rattle.cedar_c_stores.proofs.store_state.StoreState.reaches.Goals as goal

pub returns-clause-asks : goal.returns-clause-asks
returns-clause-asks g c =
    let u = c.in_ok-from.from in
    let v = c.in_ok-from.to in (
      u,
      v,
      c.in_ok-from.ensures.0,
      c.in_ok-from.ensures.1,
      subst (λ (S : StoreView). IsTrue c.in_ok-reaches.field-0 ↔ Reach (parent_graph S.entities) u v) c.entities.ensures
          c.in_ok-reaches.ensures,
    )
