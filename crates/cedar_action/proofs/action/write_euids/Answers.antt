use Rattle.cedar_action.proofs.UidLists.{more_text, more_ascii}
use Rattle.cedar_action.proofs.action.write_euids.Goals as goal

pub returns-in-Some : goal.returns-in-Some
returns-in-Some g c =
    rw (c.in-Some.ensures.cases.0) (rw (more_text c.in-Some.rest.now, more_ascii c.in-Some.rest.now)
    (rw c.deref.ensures at c.write_listed.ensures))
