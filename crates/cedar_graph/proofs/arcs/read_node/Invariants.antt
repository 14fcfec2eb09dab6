use Rattle.std.proofs.Common.{◌≡◌, ◌<◌, ◌+◌, ◌^◌, Bool, map, take, slice_get, Some}
use Rattle.std.specs.Set.{is_member}
use Rattle.indexmap.specs.IndexSet.{IsUnique}
use Rattle.cedar_graph.specs.laws.Arcs.{AreArcsIn}
use Rattle.cedar_graph.specs.laws.Readings.{IsReadBelow, ReadsOn}
use Rattle.cedar_graph.proofs.arcs.read_node.Given as goal

abbrev pub invariant-loop-edge : goal.invariant-loop-edge
invariant-loop-edge g l =
    let K = g.row.K.Denot in
    let eq = g.K.PartialEq.eq in
    let edges = g.V.TCNode.edges in
    record {
      unique : IsUnique eq l.s.keys;
      on : ReadsOn 1 l.fn.s l.s;
      counts : l.fn.s.reads + 1 < 2 ^ 64 → l.s.reads ≡ l.fn.s.reads + 1;
      arcs : (G : K → K → Bool) → IsReadBelow eq G l.a l.fn.s
          → ((x q : K) → slice_get l.fn.s.keys.keys l.a ≡ Some x → edges l.node q ≡ G x q)
          → AreArcsIn eq G l.a l.s.keys.keys l.s.from.items l.s.to.items
          (is_member eq (map (λ x. x.now) (take l.edge-index l.edge-items)));
      edges : (q : K) → is_member eq (map (λ x. x.now) l.edge-items) q ≡ edges l.node q;
    }
