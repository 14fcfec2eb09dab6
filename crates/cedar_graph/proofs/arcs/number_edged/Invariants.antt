use Rattle.std.proofs.Common.{◌≡◌, ◌≤◌, true, length}
use Rattle.std.specs.List.{All}
use Rattle.indexmap.specs.IndexSet.{IsUnique}
use Rattle.cedar_graph.specs.laws.Arcs.{HasNumber}
use Rattle.cedar_graph.specs.laws.Readings.{AreNodesAt}
use Rattle.cedar_graph.proofs.arcs.number_edged.Given as goal

abbrev pub invariant-loop-key : goal.invariant-loop-key
invariant-loop-key g l =
    let eq = g.K.PartialEq.eq in
    record {
      unique : IsUnique eq l.edged.keys;
      done : All (λ p. (b : g.row.K.Denot) → g.V.TCNode.edges p.1.now b ≡ true
          → HasNumber eq l.edged.keys.keys p.0.now) l.yielded;
      nodes : AreNodesAt eq l.nodes l.edged.keys.keys l.edged.nodes.items;
      len : length l.edged.nodes.items ≡ length l.edged.keys.keys;
      few : length l.edged.keys.keys ≤ length l.yielded;
    }
