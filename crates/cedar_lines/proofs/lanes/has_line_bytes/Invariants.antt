use Rattle.std.proofs.Common.{◌-◌, ◌≤◌, length}
use Rattle.cedar_lines.specs.Lines.{HasLineBytesIn}
use Rattle.cedar_lines.proofs.lanes.has_line_bytes.Given as goal

abbrev pub invariant-loop-at : goal.invariant-loop-at
invariant-loop-at l = (l.at ≤ length l.line) × HasLineBytesIn l.line 0 l.at

abbrev pub decreases-loop-at : goal.decreases-loop-at
decreases-loop-at l = length l.line - l.at
