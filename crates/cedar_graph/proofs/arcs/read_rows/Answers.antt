use Rattle.std.proofs.Common.{◌≡◌, ◌+◌, ◌-◌, arith, subst}
use Rattle.cedar_graph.specs.laws.Readings.{ReadsOn}
use Rattle.cedar_graph.proofs.Progress.{reads_more}
use Rattle.cedar_graph.proofs.arcs.read_rows.Goals as goal

pub loop-a-preserved : goal.loop-a-preserved
loop-a-preserved g c =
    let a = c.loop-a.a in
    let start = c.args.start in
    let e = c.in_ok-read_row.ensures in
    let count : a - start + 1 ≡ a + 1 - start = omega arith in
    record {
      read = e.read;
      on = subst (λ n. ReadsOn n c.args.s.now c.read_row.new.s) count
          (reads_more (a - start) 1 c.args.s.now c.loop-a.s c.read_row.new.s c.loop-a.invariant.on e.on);
    }
