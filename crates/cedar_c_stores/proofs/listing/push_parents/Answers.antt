use Rattle.std.proofs.Common.{arith}
use Rattle.std.proofs.lemmas.Option.{slice_get_within}
use Rattle.cedar_c_stores.proofs.Gathering.{gather_next, length_next, within_next}
use Rattle.cedar_c_stores.proofs.listing.push_parents.Goals as goal

pub loop-edge-preserved : goal.loop-edge-preserved
loop-edge-preserved c =
    let ok = c.in_ok-push_parent_at.ensures.ok in
    let i = c.loop-edge.invariant in (
      length_next _ c.in_ok-parent.parent c.loop-edge.listed.items c.push_parent_at.new.listed.items _ i.0 ok.1,
      λ us e. gather_next c.args.uids.now c.args.edges.now c.loop-edge.edge-index _ c.in_ok-parent.parent
          c.loop-edge.listed.items c.push_parent_at.new.listed.items us (omega arith) (i.1 us e) c.in_ok-parent.ensures ok.0
          ok.1,
      within_next c.args.uids.now c.args.edges.now c.loop-edge.edge-index _ c.in_ok-parent.parent _ (omega arith) i.2
          c.in_ok-parent.ensures (omega (arith, ok.0, i.0)),
    )

pub returns-clause-range : goal.returns-clause-range
returns-clause-range c =
    λ k e at. c.loop-edge.invariant.2 k e (omega (arith, slice_get_within c.args.edges.now k e at)) at
