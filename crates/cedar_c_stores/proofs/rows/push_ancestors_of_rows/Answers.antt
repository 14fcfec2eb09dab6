use Rattle.std.proofs.Common.{arith}
use Rattle.std.proofs.lemmas.Option.{slice_get_within}
use Rattle.cedar_c_stores.proofs.RowLaws.{above_done, above_next, none_above}
use Rattle.cedar_c_stores.proofs.rows.push_ancestors_of_rows.Goals as goal

pub loop-edge-init : goal.loop-edge-init
loop-edge-init c = none_above c.args.uids.now c.args.rows.now.items

pub loop-edge-preserved : goal.loop-edge-preserved
loop-edge-preserved c =
    let ok = c.in_ok-push_ancestor_at.ensures.ok in
    above_next c.args.uids.now c.args.edges.now c.loop-edge.edge-index _ c.in_ok-uid.uid c.args.rows.now.items
    c.loop-edge.rows.items c.push_ancestor_at.new.rows.items (omega arith) c.loop-edge.invariant c.in_ok-uid.ensures
    (slice_get_within c.args.uids.now _ c.in_ok-uid.uid c.in_ok-uid.ensures) ok.0 ok.1

pub returns-clause-ok : goal.returns-clause-ok
returns-clause-ok c =
    above_done c.args.uids.now c.args.edges.now c.loop-edge.edge-index c.args.rows.now.items c.loop-edge.rows.items
    (omega arith) c.loop-edge.invariant
