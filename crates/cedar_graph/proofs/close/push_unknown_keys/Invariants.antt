use Rattle.cedar_graph.specs.laws.Writings.{IsRowTo, KeepsOrder}
use Rattle.cedar_graph.proofs.close.push_unknown_keys.Given as goal

abbrev pub invariant-loop-place : goal.invariant-loop-place
invariant-loop-place g l = record {
  row : IsRowTo g.K.PartialEq.eq l.keys l.numbers l.place l.known l.row.items;
  order : KeepsOrder g.K.PartialEq.eq l.keys l.numbers l.place l.row.items;
}
