use Rattle.std.proofs.Common.{◌≡◌, ◌++◌, ◌-◌, ◌≤◌, true, length, drop}
use Rattle.std.specs.String.{string_bytes}
use Rattle.cedar_ids.specs.Escape.{escaped, is_ascii}
use Rattle.cedar_lines.proofs.escapes.decoded.Given as goal

abbrev pub invariant-loop-at : goal.invariant-loop-at
invariant-loop-at l = record {
  within : l.at ≤ length l.text;
  ascii : is_ascii (string_bytes l.plain) ≡ true;
  read : escaped (string_bytes l.plain) ++ drop l.at l.text ≡ l.text;
}

abbrev pub decreases-loop-at : goal.decreases-loop-at
decreases-loop-at l = length l.text - l.at
