use Rattle.std.proofs.Common.{◌-◌}
use Rattle.cedar_graph.specs.Graph.{graph_of}
use Rattle.cedar_graph.specs.laws.Readings.{IsReadBelow, ReadsOn}
use Rattle.cedar_graph.proofs.arcs.read_rows.Given as goal

abbrev pub invariant-loop-a : goal.invariant-loop-a
invariant-loop-a g l =
    let eq = g.K.PartialEq.eq in
    record {
      read : IsReadBelow eq (graph_of eq g.V.TCNode.edges l.nodes) l.a l.s;
      on : ReadsOn (l.a - l.start) l.fn.s l.s;
    }
