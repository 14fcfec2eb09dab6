use Rattle.std.proofs.Common.{◌≡◌, ◌≤◌, false, length}
use Rattle.cedar_graph.specs.Calls.{KeepsAll}
use Rattle.cedar_graph.specs.laws.Arcs.{IsRowEdgeBelow}
use Rattle.cedar_graph.specs.laws.Readings.{IsArc}
use Rattle.cedar_graph.specs.laws.Writings.{AreAtMost, AreMarked, CountsFound, HasNodes, IsToFix, NoneGoesBack}
use Rattle.cedar_graph.specs.laws.Writings.{StartsAt, Writes}
use Rattle.cedar_graph.proofs.Rows.{done}
use Rattle.cedar_graph.proofs.close.write_rows.Given as goal

abbrev pub invariant-loop-x : goal.invariant-loop-x
invariant-loop-x g l =
    let eq = g.K.PartialEq.eq in
    let node = g.V.TCNode in
    record {
      marks_len : length l.known.marks.items ≡ length l.arcs.keys.keys;
      marks_below : AreAtMost l.x l.known.marks.items;
      place : l.place ≤ length l.arcs.from.items;
      marked : AreMarked (IsArc l.read.reading) l.x l.known.marks.items;
      starts : StartsAt l.arcs.from.items l.x l.place;
      keeps : KeepsAll eq node.key node.rest node.kept l.fn.nodes l.nodes;
      writes : Writes eq node.edges (IsToFix eq l.read)
          (IsRowEdgeBelow eq l.x l.read.reading.keys.keys (IsArc l.read.reading)) l.fn.nodes l.nodes done;
      counts : CountsFound l.x (HasNodes eq l.fn.nodes (IsToFix eq l.read)) l.closings;
      loops : l.has_loop ≡ false → NoneGoesBack (IsArc l.read.reading) l.x;
    }
