use Rattle.std.specs.Prelude.{◌≡◌, ◌+◌, ◌++◌, length}
use Rattle.std.specs.Vec.{vec_len, vec_capacity}
use Rattle.cedar_uid_sets.proofs.merge.move_all.Given as goal

abbrev pub invariant-loop-next : goal.invariant-loop-next
invariant-loop-next l =
    (goal.iterator-loop-next).can_next l.next-iterator × (goal.iterator-loop-next).is_finite l.next-iterator
    × (l.to.items ≡ l.initial.to.items ++ l.yielded)
    × (vec_len l.to ≡ vec_len l.initial.to + length l.yielded)
    × (vec_capacity l.to ≡ vec_capacity l.initial.to)
