use Rattle.std.proofs.Common.{sym}
use Rattle.cedar_deep_copy_policies.proofs.SameSets.{same_set_is}
use Rattle.cedar_deep_copy_policies.proofs.set.deep_copy_set.Goals as goal

pub returns-then-eq : goal.returns-then-eq
returns-then-eq g c = same_set_is c.in_ok-own.own c.args.set.now (sym c.if-eq.ensures)
