-- A lookup in the plain store of an input store, as reachability in the input store.
use Rattle.std.specs.Prelude.{◌≡◌, ◌↔◌, true, Option}
use Rattle.std.proofs.Common.{subst}
use Rattle.std.specs.FinMap as finmap
use Rattle.cedar_graph.specs.Graph.{Reach}
use Rattle.cedar_ids.specs.declared.entity.EntityUID.{EntityUID}
use Rattle.cedar_entity.specs.View.{EntityView}
use Rattle.cedar_entity_maps.specs.Modes.{is_ancestor_in}
use Rattle.cedar_entity_maps.specs.Plain.{StoreView, IsPlainStore}
use Rattle.cedar_entity_maps.specs.InputStore.{InputStore, graph}
use Rattle.cedar_entity_maps.specs.laws.PlainAncestors.{ancestry_plain}

-- Whether an entity has an ancestor is whether the ancestor is reached.
pub reached_where_held : (W : InputStore) (S : StoreView) (a b : EntityUID) (o : Option EntityView)
    → finmap.get S.entities a ≡ o →
    IsPlainStore W S → (is_ancestor_in o b ≡ true) ↔ Reach (graph W) a b
reached_where_held W S a b o is plain =
    subst (λ p. (is_ancestor_in p b ≡ true) ↔ Reach (graph W) a b) is (ancestry_plain W S plain a b)
