use Rattle.std.proofs.Common.{◌≡◌, is_some, map}
use Rattle.std.specs.Map.{lookup}
use Rattle.std.specs.Map.Iter.{deref_pair}
use Rattle.std.specs.Set.{is_member}
use Rattle.cedar_ids.specs.UidOf.{same_uid}
use Rattle.cedar_ids.specs.declared.entity.EntityUID.{EntityUID}
use Rattle.cedar_entity_maps.proofs.index.keys_in_order.Given as goal

abbrev pub invariant-loop-key : goal.invariant-loop-key
invariant-loop-key g l = (q : EntityUID)
    → is_member same_uid l.keys.items q ≡ is_some (lookup (same_uid q) (map deref_pair l.yielded))
