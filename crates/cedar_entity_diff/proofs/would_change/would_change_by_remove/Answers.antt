use Rattle.std.proofs.Common.{refl}
use Rattle.cedar_entity_diff.proofs.would_change.would_change_by_remove.Goals as goal

pub part_change_by_remove-requires : goal.part_change_by_remove-requires
part_change_by_remove-requires g c = record { plain = c.if-has_part.ensures.store refl }
