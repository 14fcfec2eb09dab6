use Rattle.std.proofs.Common.{refl}
use Rattle.cedar_queries.proofs.members.descendants.Goals as goal

pub descendants_by_scan-requires : goal.descendants_by_scan-requires
descendants_by_scan-requires g c = c.if-is_known_plain.ensures.plain refl
