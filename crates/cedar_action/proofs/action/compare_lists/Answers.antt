use Rattle.std.proofs.Common.{◌∙◌}
use Rattle.cedar_action.proofs.UidLists.{shared_lists_cmp}
use Rattle.cedar_action.proofs.action.compare_lists.Goals as goal

pub returns : goal.returns
returns c = c.cmp.ensures ∙ shared_lists_cmp c.args.us.now.items c.args.vs.now.items
