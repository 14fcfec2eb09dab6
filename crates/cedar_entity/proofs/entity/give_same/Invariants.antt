use Rattle.std.proofs.Common.{◌≡◌}
use Rattle.std.specs.Cmp.Lexicographic.{pointwise}
use Rattle.cedar_ids.specs.UidOf.{same_uid}
use Rattle.cedar_entity.proofs.entity.give_same.Given as goal

abbrev pub invariant-loop-uid : goal.invariant-loop-uid
invariant-loop-uid l = pointwise same_uid l.uid-iterator l.other ≡ pointwise same_uid l.fn.one l.initial.other
