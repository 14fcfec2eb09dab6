use Rattle.std.proofs.Common.{refl}
use Rattle.cedar_entity_diff.proofs.parts.has_part_for.Goals as goal

pub returns-then-has_part-clause-store : goal.returns-then-has_part-clause-store
returns-then-has_part-clause-store g c _ = c.if-has_part.ensures.store refl
