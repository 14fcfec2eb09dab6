use Rattle.std.specs.Prelude.{◌≡◌, ◌+◌, ◌≤◌, ◌++◌}
use Rattle.std.specs.Vec.{vec_len, vec_capacity}
use Rattle.std.specs.VecDeque.{deque_len}
use Rattle.cedar_uid_sets.specs.laws.Merged.{below, above}
use Rattle.cedar_uid_sets.proofs.merge.shift_lower.Given as goal

abbrev pub invariant-loop-next : goal.invariant-loop-next
invariant-loop-next l =
    (l.to.items ++ below l.uid l.queue.items ≡ l.initial.to.items ++ below l.uid l.initial.queue.items)
    × (above l.uid l.queue.items ≡ above l.uid l.initial.queue.items)
    × (vec_len l.to + deque_len l.queue ≤ vec_len l.initial.to + deque_len l.initial.queue)
    × (vec_capacity l.to ≡ vec_capacity l.initial.to)

abbrev pub decreases-loop-next : goal.decreases-loop-next
decreases-loop-next l = deque_len l.queue
