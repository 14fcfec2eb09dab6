use Rattle.std.proofs.Common.{◌≡◌, ◌<◌, ◌≤◌, ◌+◌, ◌^◌, ℕ, Bool, length, slice_get, Some}
use Rattle.std.specs.Borrow.{Bor}
use Rattle.indexmap.specs.IndexSet.{IsUnique}
use Rattle.cedar_graph.specs.laws.Readings.{IsReadBelow, ReadsOn}
use Rattle.cedar_graph.proofs.arcs.read_nodes.Given as goal

abbrev pub invariant-loop-a : goal.invariant-loop-a
invariant-loop-a g l =
    let K = g.row.K.Denot in
    let eq = g.K.PartialEq.eq in
    let edges = g.V.TCNode.edges in
    record {
      within : l.a ≤ length l.nodes;
      unique : IsUnique eq l.s.keys;
      on : ReadsOn l.a l.fn.s l.s;
      counts : l.fn.s.reads + l.a < 2 ^ 64 → l.s.reads ≡ l.fn.s.reads + l.a;
      read : (G : K → K → Bool) → ((i : ℕ) (x q : K) (r : Bor g.row.V.Denot) → slice_get l.fn.s.keys.keys i ≡ Some x
          → slice_get l.nodes i ≡ Some r → edges r.now q ≡ G x q) → IsReadBelow eq G l.a l.s;
    }
