use Rattle.std.specs.Prelude.{◌≡◌, ◌||◌}
use Rattle.std.specs.HashSet.{contains}
use Rattle.std.specs.Set.{is_member}
use Rattle.cedar_ids.specs.UidOf.{same_uid}
use Rattle.cedar_ids.specs.declared.entity.EntityUID.{EntityUID}
use Rattle.cedar_entity_maps.proofs.affected.insert_all.Given as goal

abbrev pub invariant-loop-uid : goal.invariant-loop-uid
invariant-loop-uid g l = (q : EntityUID)
    → contains same_uid l.all q ≡ (contains same_uid l.initial.all q || is_member same_uid l.yielded q)
