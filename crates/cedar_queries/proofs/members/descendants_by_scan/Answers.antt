use Rattle.cedar_queries.proofs.Descending.{from_scan}
use Rattle.cedar_queries.proofs.members.descendants_by_scan.Goals as goal

pub returns : goal.returns
returns g c =
    from_scan c.args.store.now.entities c.args.uid.now c.in_ok-ancestor.ancestor c.in_ok-uids.uids.items c.requires
    c.in_ok-ancestor.ensures c.in_ok-uids.ensures c.in_order.result c.in_order.ensures.ascending
    c.in_order.ensures.members
