use Rattle.cedar_c_stores.proofs.Gathering.{gathered_by, out_of_first}
use Rattle.cedar_c_stores.proofs.listing.gathered.Goals as goal

pub returns-in-Err : goal.returns-in-Err
returns-in-Err c =
    out_of_first c.args.uids.now c.args.edges.now c.args.count c.in_ok-first.first.now c.in_ok-listed.listed.items
    c.in-Err.reason c.in_ok-first.ensures.0 c.in_ok-first.ensures.1
    c.in_ok-listed.ensures c.in-Err.ensures.err

pub returns-in_ok-entities_with-in-Ok : goal.returns-in_ok-entities_with-in-Ok
returns-in_ok-entities_with-in-Ok c =
    gathered_by c.args.uids.now c.args.edges.now c.args.count c.in_ok-first.first.now c.in_ok-listed.listed.items
    c.push_parents.new.listed.items _ c.in_ok-first.ensures.0 c.in_ok-first.ensures.1
    c.in_ok-listed.ensures c.in-Ok.ensures.ok c.in-Ok.ensures.range c.in_ok-entities_with-in-Ok.ensures
