use Rattle.std.proofs.Common.{◌+◌, ◌-◌, ◌<◌}
use Rattle.cedar_lines.specs.Lines.{HasLineBytesIn}
use Rattle.cedar_lines.specs.laws.Fields.{MarksTabs}
use Rattle.cedar_lines.proofs.lanes.tabs_of_line.Given as goal

abbrev pub invariant-loop-at : goal.invariant-loop-at
invariant-loop-at l = record {
  near : l.at < l.last + 16;
  seen : HasLineBytesIn l.line 0 l.at;
  marks : MarksTabs l.line 0 l.at l.tabs;
}

abbrev pub decreases-loop-at : goal.decreases-loop-at
decreases-loop-at l = l.last - l.at
