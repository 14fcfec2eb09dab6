use Rattle.cedar_policy.proofs.Names.{reads_only}
use Rattle.cedar_policy.proofs.unknowns.uid_read.Goals as goal

pub returns-in-Ok : goal.returns-in-Ok
returns-in-Ok c = reads_only c.in-Ok.uid c.args.text.now c.in-Ok.ensures.printed c.in-Ok.ensures.exact
