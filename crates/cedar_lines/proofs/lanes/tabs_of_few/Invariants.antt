use Rattle.cedar_lines.specs.laws.Fields.{MarksTabs}
use Rattle.cedar_lines.proofs.lanes.tabs_of_few.Given as goal

abbrev pub invariant-loop-i : goal.invariant-loop-i
invariant-loop-i l = MarksTabs l.bytes 0 l.i l.tabs
