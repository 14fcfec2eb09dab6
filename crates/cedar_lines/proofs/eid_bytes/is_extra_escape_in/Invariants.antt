use Rattle.std.proofs.Common.{◌-◌, ◌+◌, ◌≤◌}
use Rattle.cedar_lines.proofs.EscapeBytes.{AreOwnEscapesIn}
use Rattle.cedar_lines.proofs.eid_bytes.is_extra_escape_in.Given as goal

abbrev pub invariant-loop-at : goal.invariant-loop-at
invariant-loop-at l = record {
  near : l.at ≤ l.last + 8;
  seen : AreOwnEscapesIn l.text l.from l.at;
}

abbrev pub decreases-loop-at : goal.decreases-loop-at
decreases-loop-at l = l.last - l.at
