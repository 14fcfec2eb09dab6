use Rattle.cedar_c_stores.proofs.Sets.{above_added}
use Rattle.cedar_c_stores.proofs.rows.insert_indirect.Goals as goal

pub returns : goal.returns
returns c =
    above_added c.args.entity.now c.add_shared_ancestors.new.self c.args.above.items c.requires c.in_ok-add_shared_ancestors.ensures.ok
