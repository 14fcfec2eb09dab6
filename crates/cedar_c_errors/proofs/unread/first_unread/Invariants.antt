use Rattle.std.proofs.Common.{take}
use Rattle.cedar_c_errors.specs.Unread.{AreAllRead}
use Rattle.cedar_c_errors.proofs.unread.first_unread.Given as goal

abbrev pub invariant-loop-place : goal.invariant-loop-place
invariant-loop-place l = AreAllRead l.text (take l.place l.spans)
