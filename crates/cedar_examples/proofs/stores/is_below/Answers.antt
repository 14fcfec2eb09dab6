use Rattle.std.proofs.Common.{sym, None}
use Rattle.cedar_examples.proofs.Asked.{reached_where_held}
use Rattle.cedar_examples.proofs.stores.is_below.Goals as goal

pub returns-in-None : goal.returns-in-None
returns-in-None c W plain =
    reached_where_held W c.args.store.now c.args.user.now c.args.group.now None (sym c.in-None.ensures.value) plain
