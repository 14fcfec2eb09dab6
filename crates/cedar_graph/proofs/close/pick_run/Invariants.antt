use Rattle.cedar_graph.specs.laws.Writings.{KeepsOrder, TakesRun}
use Rattle.cedar_graph.proofs.close.pick_run.Given as goal

abbrev pub invariant-loop-place : goal.invariant-loop-place
invariant-loop-place g l = record {
  taken : TakesRun g.K.PartialEq.eq l.keys l.numbers l.start l.place l.fn.row.items l.row.items;
  order : KeepsOrder g.K.PartialEq.eq l.keys l.numbers l.start l.fn.row.items
      → KeepsOrder g.K.PartialEq.eq l.keys l.numbers l.place l.row.items;
}
