use Rattle.std.proofs.Common.{refl}
use Rattle.cedar_entity_diff.proofs.would_change.would_change_by_add.Goals as goal

pub part_change_by_add-requires-clause-plain : goal.part_change_by_add-requires-clause-plain
part_change_by_add-requires-clause-plain g c = c.if-has_part_for.ensures.store refl
