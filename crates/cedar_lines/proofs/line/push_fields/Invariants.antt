use Rattle.std.proofs.Common.{◌≡◌, ◌==◌, ◌++◌, ◌≤◌, map, drop}
use Rattle.std.specs.List.{slice_split}
use Rattle.cedar_lines.specs.laws.Fields.{MarksTabsFrom, block_end}
use Rattle.cedar_lines.proofs.line.push_fields.Given as goal

abbrev pub invariant-loop-tabs : goal.invariant-loop-tabs
invariant-loop-tabs l = record {
  ordered : l.next ≤ block_end l.line l.from;
  left : MarksTabsFrom l.line l.next l.from (block_end l.line l.from) l.tabs;
  cut : map (λ f. f.now) l.fields.items ++ slice_split (λ b. b == 9) (drop l.next l.line)
      ≡ map (λ f. f.now) l.initial.fields.items ++ slice_split (λ b. b == 9) (drop l.start l.line);
}

abbrev pub decreases-loop-tabs : goal.decreases-loop-tabs
decreases-loop-tabs l = l.tabs
