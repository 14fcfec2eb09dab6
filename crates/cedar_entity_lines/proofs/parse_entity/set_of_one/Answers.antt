use Rattle.std.proofs.Common.{subst, sym}
use Rattle.std.specs.List.Sorted.{IsStrictlySortedBy}
use Rattle.cedar_ids.specs.UidOf.{uid_order}
use Rattle.cedar_entity_lines.proofs.parse_entity.set_of_one.Goals as goal

pub from_ascending-requires : goal.from_ascending-requires
unfolding IsStrictlySortedBy
from_ascending-requires c = subst (IsStrictlySortedBy uid_order) (sym c.in_ok-vec.ensures.items) (tt, tt)
