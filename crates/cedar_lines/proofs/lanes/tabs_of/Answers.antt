use Rattle.std.proofs.Common.{◌≡◌, ◌-◌, ◌+◌, length, subst, arith}
use Rattle.cedar_lines.specs.laws.Fields.{MarksTabs}
use Rattle.cedar_lines.proofs.Marks.{MarksTabs-or}
use Rattle.cedar_lines.proofs.lanes.tabs_of.Goals as goal

pub returns : goal.returns
returns c =
    let last = length c.args.bytes.now - 16 in
    let end : last + 16 ≡ length c.args.bytes.now = omega arith in
    MarksTabs-or c.args.bytes.now 0 last c.loop-at.at (length c.args.bytes.now) last _ _ (omega arith)
    (omega arith) (omega arith) (omega arith) c.loop-at.invariant.marks
    (subst (λ e. MarksTabs c.args.bytes.now last e c.tabs_at-2.result) end c.tabs_at-2.ensures)

pub loop-at-preserved : goal.loop-at-preserved
loop-at-preserved c = record {
  near = omega arith;
  marks = MarksTabs-or c.args.bytes.now 0 c.loop-at.at c.loop-at.at (c.loop-at.at + 16) c.loop-at.at _ _
      (omega arith) (omega arith) (omega arith) (omega arith) c.loop-at.invariant.marks c.tabs_at.ensures;
}
