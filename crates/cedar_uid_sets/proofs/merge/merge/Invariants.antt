use Rattle.std.specs.Prelude.{◌≡◌, ◌+◌, ◌≤◌, ◌++◌}
use Rattle.std.specs.Vec.{vec_capacity, vec_len}
use Rattle.std.specs.VecDeque.{deque_len}
use Rattle.cedar_uid_sets.specs.laws.Merged.{merged}
use Rattle.cedar_uid_sets.proofs.merge.merge.Given as goal

-- The rest of the merge is appended to the merged uids, and there is capacity for it.
abbrev pub invariant-loop-shared : goal.invariant-loop-shared
invariant-loop-shared l =
    (l.to.items ++ merged l.left.items l.right.items ≡ merged l.fn.left.items l.fn.right.items)
    × (vec_len l.to + deque_len l.left + deque_len l.right ≤ vec_capacity l.to)

abbrev pub decreases-loop-shared : goal.decreases-loop-shared
decreases-loop-shared l = deque_len l.right
