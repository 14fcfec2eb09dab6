use Rattle.std.proofs.Common.{◌≡◌, false, map}
use Rattle.std.specs.HashSet.{contains}
use Rattle.std.specs.List.{list_any}
use Rattle.cedar_ids.specs.UidOf.{same_uid}
use Rattle.cedar_entity_maps.proofs.uid_lookup.has_any_ancestor_of.Given as goal

abbrev pub invariant-loop-uid : goal.invariant-loop-uid
invariant-loop-uid g l = list_any (contains same_uid l.uids) (map (λ x. x.now) l.yielded) ≡ false
