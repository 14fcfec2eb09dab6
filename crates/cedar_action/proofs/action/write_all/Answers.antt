use Rattle.cedar_action.proofs.UidLists.{more_text, more_ascii}
use Rattle.cedar_action.proofs.action.write_all.Goals as goal

pub returns : goal.returns
returns g c =
    rw (more_text c.args.uids.now.tail.items, more_ascii c.args.uids.now.tail.items)
    (rw (c.deref.ensures, c.as_slice.ensures.value) at c.write_listed.ensures)
