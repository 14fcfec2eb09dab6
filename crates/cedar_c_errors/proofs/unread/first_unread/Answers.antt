use Rattle.std.proofs.Common.{arith}
use Rattle.cedar_c_errors.proofs.Reading.{one_more_read}
use Rattle.cedar_c_errors.proofs.unread.first_unread.Goals as goal

pub loop-place-preserved : goal.loop-place-preserved
loop-place-preserved c =
    one_more_read c.args.text.now c.args.spans.now c.loop-place.place _ (omega arith) c.loop-place.invariant
    c.in-Ok.ensures
