use Rattle.std.proofs.Common.{◌≡◌, ◌==◌, ◌++◌, ◌-◌, ◌≤◌, length, map, drop}
use Rattle.std.specs.List.{slice_split}
use Rattle.cedar_lines.specs.laws.Fields.{HasNoTabIn}
use Rattle.cedar_lines.proofs.line.set_fields.Given as goal

abbrev pub invariant-loop-seen : goal.invariant-loop-seen
invariant-loop-seen l = record {
  begun : l.start ≤ l.seen;
  ordered : l.seen ≤ length l.line;
  none : HasNoTabIn l.line l.start l.seen;
  cut : map (λ f. f.now) l.fields.items ++ slice_split (λ b. b == 9) (drop l.start l.line) ≡ slice_split (λ b. b == 9) l.line;
}

abbrev pub decreases-loop-seen : goal.decreases-loop-seen
decreases-loop-seen l = length l.line - l.seen
