use Rattle.cedar_queries.proofs.Descending.{from_set}
use Rattle.cedar_queries.proofs.members.descendants_by.Goals as goal

pub returns : goal.returns
returns g c =
    from_set c.args.store.now.entities c.args.uid.now c.leave_descendants.new.uids c.in_ok-listed.field-0.items
    c.in_ok-listed.ensures c.leave_descendants.ensures c.in_order.result c.in_order.ensures.ascending
    c.in_order.ensures.members
