use Rattle.std.proofs.Common.{sym}
use Rattle.cedar_uid_sets.proofs.Edits.{one_same, not_in_gap}
use Rattle.cedar_uid_sets.proofs.order.is_found.Goals as goal

pub returns-in-Ok : goal.returns-in-Ok
returns-in-Ok c = sym (one_same _ _ _ c.in-Ok.ensures.in_range c.in-Ok.ensures.here)

pub returns-in-Err : goal.returns-in-Err
returns-in-Err c = sym (not_in_gap _ _ _ c.in-Err.ensures)
