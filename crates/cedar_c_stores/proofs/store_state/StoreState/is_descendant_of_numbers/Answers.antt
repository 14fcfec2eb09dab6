use Rattle.std.proofs.Common.{◌≡◌, ap, sym, subst, true, ◌∙◌}
use Rattle.std.specs.Prelude.{◌↔◌, Bool}
use Rattle.cedar_entity_maps.specs.InputStore.{graph}
use Rattle.cedar_graph.specs.Graph.{Reach}
use Rattle.cedar_c_stores.proofs.Asking.{above_held}
use Rattle.cedar_c_stores.proofs.store_state.StoreState.is_descendant_of_numbers.Goals as goal

pub returns-in-Some-stored : goal.returns-in-Some-stored
returns-in-Some-stored g c =
    let u = c.in-Some.child.now in
    let v = c.in-Some-uid_at.ancestor.now in
    let x = c.in-Some-stored.entity.now in (
      u,
      v,
      sym c.in-Some.ensures,
      sym c.in-Some-uid_at.ensures,
      record {
        entity = x;
        entities = sym c.in-Some-stored.ensures.value;
        told = c.is_descendant_of.ensures;
        plain = λ W p.
            subst (λ (b : Bool). (b ≡ true) ↔ Reach (graph W) u v) (sym c.is_descendant_of.ensures)
            (above_held c.args.self.now.store u v x (sym c.in-Some-stored.ensures.value) W p);
      },
    )
