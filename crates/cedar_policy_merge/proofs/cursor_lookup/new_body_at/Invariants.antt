use Rattle.std.proofs.Common.{◌-◌, length}
use Rattle.cedar_policy_merge.proofs.cursor_lookup.new_body_at.Given as goal

abbrev pub decreases-loop-next : goal.decreases-loop-next
decreases-loop-next l = length l.joined - l.next
