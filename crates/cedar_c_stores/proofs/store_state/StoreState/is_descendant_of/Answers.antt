use Rattle.std.proofs.Common.{◌≡◌, ap, sym, subst, true}
use Rattle.std.specs.Prelude.{◌↔◌, Bool}
use Rattle.cedar_entity_maps.specs.InputStore.{graph}
use Rattle.cedar_graph.specs.Graph.{Reach}
use Rattle.cedar_c_stores.proofs.Asking.{above_held}
use Rattle.cedar_c_stores.proofs.store_state.StoreState.is_descendant_of.Goals as goal

pub returns-in-Some-clause-asks : goal.returns-in-Some-clause-asks
returns-in-Some-clause-asks g c =
    let (x, v, (u, read, entity_at), name, told) = c.in-Some.ensures in (
      u,
      v,
      read,
      name,
      record {
        entity = x;
        entities = entity_at;
        told = told;
        plain = λ W p.
            subst (λ (b : Bool). (b ≡ true) ↔ Reach (graph W) u v) (sym told)
            (above_held c.args.self.now.store u v x entity_at W p);
      },
    )

pub returns-clause-same : goal.returns-clause-same
returns-clause-same g c = ap (λ s. record c.args.self.now { store = s }) c.note.ensures

pub returns-clause-asks : goal.returns-clause-asks
returns-clause-asks g c =
    let u = c.in_ok-uid.uid in
    let v = c.in-Ok.uid in
    let x = c.in-Some-stored.entity.now in (
      u,
      v,
      c.in_ok-uid.ensures,
      c.in-Ok.ensures,
      record {
        entity = x;
        entities = sym c.in-Some-stored.ensures.value;
        told = c.is_descendant_of-below.ensures;
        plain = λ W p.
            subst (λ (b : Bool). (b ≡ true) ↔ Reach (graph W) u v) (sym c.is_descendant_of-below.ensures)
            (above_held c.args.self.now.store u v x (sym c.in-Some-stored.ensures.value) W p);
      },
    )
