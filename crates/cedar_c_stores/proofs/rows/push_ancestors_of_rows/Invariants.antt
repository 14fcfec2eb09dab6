use Rattle.std.specs.Prelude.{take}
use Rattle.cedar_c_stores.specs.laws.Rows.{PutsAbove}
use Rattle.cedar_c_stores.proofs.rows.push_ancestors_of_rows.Given as goal

abbrev pub invariant-loop-edge : goal.invariant-loop-edge
invariant-loop-edge l = PutsAbove l.uids (take l.edge-index l.edges) l.initial.rows.items l.rows.items
