use Rattle.std.proofs.Common.{◌≡◌, ◌-◌, ◌+◌, length, subst, arith}
use Rattle.cedar_lines.specs.laws.Fields.{MarksTabs}
use Rattle.cedar_lines.proofs.Marks.{MarksTabs-or}
use Rattle.cedar_lines.proofs.lanes.tabs_of_short_line.Goals as goal

pub returns-then-has_eight_line_bytes-2-clause-tabs : goal.returns-then-has_eight_line_bytes-2-clause-tabs
returns-then-has_eight_line_bytes-2-clause-tabs c =
    let line = c.args.line.now in
    let last = length line - 8 in
    let end : last + 8 ≡ length line = omega (arith, c.requires.long) in
    MarksTabs-or line 0 last 8 (length line) last _ _ (omega arith) (omega (arith, c.requires.few))
    (omega (arith, c.requires.long)) (omega (arith, c.requires.few)) c.tabs_of_eight.ensures
    (subst (λ e. MarksTabs line last e c.tabs_of_eight-then-has_eight_line_bytes-2.result) end
    c.tabs_of_eight-then-has_eight_line_bytes-2.ensures)
