use Rattle.std.proofs.Common.{arith}
use Rattle.cedar_c_errors.proofs.Finding.{empty_further}
use Rattle.cedar_c_errors.proofs.naming.after_uid_list.Goals as goal

pub returns-then-is_empty-clause-behind : goal.returns-then-is_empty-clause-behind
returns-then-is_empty-clause-behind c =
    empty_further c.args.count c.loop.counter c.args.text.now c.loop.rest.now (omega arith) c.loop.invariant.0
    c.if-is_empty.ensures
