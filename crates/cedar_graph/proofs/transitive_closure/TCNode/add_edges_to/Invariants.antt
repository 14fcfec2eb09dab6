use Rattle.std.proofs.Common.{◌≡◌, ◌||◌, ◌++◌}
use Rattle.std.specs.Set.{is_member}
use Rattle.std.specs.Vec.Iter.{into_iter_items}
use Rattle.cedar_graph.proofs.transitive_closure.TCNode.add_edges_to.Given as goal

abbrev pub invariant-loop-key : goal.invariant-loop-key
invariant-loop-key g l =
    let n = g.Self.TCNode in
    record {
      edges : (q : g.row.K.Denot) → n.edges l.self q ≡ (n.edges l.fn.self q || is_member g.K.PartialEq.eq l.yielded q);
      key : n.key l.self ≡ n.key l.fn.self;
      rest : n.rest l.self ≡ n.rest l.fn.self;
      kept : n.kept l.self ≡ n.kept l.fn.self;
      place : l.fn.keys.items ≡ l.yielded ++ into_iter_items l.key-iterator;
    }
