use Rattle.std.proofs.Common.{◌≡◌, ◌-◌, ◌+◌, length, subst, arith, ⊎_elim}
use Rattle.std.proofs.lemmas.Bool.{cases_lt}
use Rattle.cedar_lines.specs.laws.Fields.{MarksTabs}
use Rattle.cedar_lines.proofs.Marks.{MarksTabs-or}
use Rattle.cedar_lines.proofs.lanes.tabs_of_line.Goals as goal

pub loop-at-preserved : goal.loop-at-preserved
loop-at-preserved c = record {
  near = omega arith;
  seen = λ k low high. ⊎_elim (λ l. c.loop-at.invariant.seen k low l)
      (λ past. c.has_line_bytes_at.ensures c.if-not-has_line_bytes_at.false k past high) (cases_lt k c.loop-at.at);
  marks = MarksTabs-or c.args.line.now 0 c.loop-at.at c.loop-at.at (c.loop-at.at + 16) c.loop-at.at _ _
      (omega arith) (omega arith) (omega arith) (omega arith) c.loop-at.invariant.marks c.tabs_at.ensures;
}

pub returns-then-has_line_bytes_at-clause-tabs : goal.returns-then-has_line_bytes_at-clause-tabs
returns-then-has_line_bytes_at-clause-tabs c =
    let line = c.args.line.now in
    let last = length line - 16 in
    let end : last + 16 ≡ length line = omega arith in
    MarksTabs-or line 0 last c.loop-at.at (length line) last _ _ (omega arith) (omega arith) (omega arith) (omega arith)
    c.loop-at.invariant.marks
    (subst (λ e. MarksTabs line last e c.tabs_at-then-has_line_bytes_at.result) end c.tabs_at-then-has_line_bytes_at.ensures)
