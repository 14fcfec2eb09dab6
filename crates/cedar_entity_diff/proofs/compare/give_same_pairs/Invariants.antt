use Rattle.std.proofs.Common.{◌≡◌}
use Rattle.std.specs.Cmp.Lexicographic.{pointwise}
use Rattle.cedar_entity.specs.laws.Fields.{field_eq}
use Rattle.cedar_entity_diff.proofs.compare.give_same_pairs.Given as goal

abbrev pub invariant-loop-key : goal.invariant-loop-key
invariant-loop-key l = pointwise field_eq l.key-iterator l.other ≡ pointwise field_eq l.fn.one l.initial.other
