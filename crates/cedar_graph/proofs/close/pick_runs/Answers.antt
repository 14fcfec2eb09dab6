use Rattle.std.proofs.Common.{◌+◌, arith}
use Rattle.cedar_graph.proofs.InOrder.{later_in_order, none_in_order}
use Rattle.cedar_graph.proofs.Runs.{known_passed, none_taken, run_taken}
use Rattle.cedar_graph.proofs.close.pick_runs.Goals as goal

pub loop-end-init : goal.loop-end-init
loop-end-init g c =
    let laws = g.met.K.Eq.laws in
    let keys = c.args.keys.now in
    let numbers = c.args.numbers.now in
    let known = c.args.known.now in
    let unique = c.requires.unique in
    let place = c.next_known-end.ensures in
    let end = c.next_known-end.result in
    record {
      row = run_taken laws keys unique numbers known 0 end c.args.row.now.items c.pick_run.new.row.items (omega arith)
          (none_taken laws keys unique numbers known c.args.row.now.items c.requires.row) c.in_ok-pick_run.ensures.taken place.before;
      order = c.in_ok-pick_run.ensures.order (none_in_order keys numbers c.args.row.now.items c.requires.row);
      within = place.most;
      found = place.found;
    }

pub loop-end-preserved : goal.loop-end-preserved
loop-end-preserved g c =
    let laws = g.met.K.Eq.laws in
    let keys = c.args.keys.now in
    let numbers = c.args.numbers.now in
    let known = c.args.known.now in
    let unique = c.requires.unique in
    let i = c.loop-end.invariant in
    let place = c.next_known-end-in-loop-end.ensures in
    let end = c.next_known-end-in-loop-end.result in
    let was = c.loop-end.end in
    let row = c.loop-end.row.items in
    let marked = i.found c.loop-end-test.true in
    record {
      row = run_taken laws keys unique numbers known (was + 1) end row c.pick_run-in-loop-end.new.row.items place.least
          (known_passed laws keys unique numbers known was row i.row marked) c.in_ok-pick_run-2.ensures.taken place.before;
      order = c.in_ok-pick_run-2.ensures.order (later_in_order keys numbers was (was + 1) row (omega arith) i.order);
      within = place.most;
      found = place.found;
    }
