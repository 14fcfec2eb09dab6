use Rattle.std.proofs.Common.{◌∙◌}
use Rattle.cedar_queries.proofs.UidLists.{same_members}
use Rattle.cedar_queries.proofs.members.in_order.Goals as goal

pub returns-clause-members : goal.returns-clause-members
returns-clause-members c =
    same_members c.into_pointers.result.items c.args.uids.items (c.into_pointers.ensures.all ∙ c.in_ok-set.ensures)
