use Rattle.cedar_components.specs.laws.Search.{GoesOn, IsSeen, work_left}
use Rattle.cedar_components.proofs.search.search_from.Given as goal

abbrev pub invariant-loop-s : goal.invariant-loop-s
invariant-loop-s l = record {
  goes_on : GoesOn l.arcs l.fn.s l.s;
  root : IsSeen l.s l.root;
}

abbrev pub decreases-loop-s : goal.decreases-loop-s
decreases-loop-s l = work_left l.s
