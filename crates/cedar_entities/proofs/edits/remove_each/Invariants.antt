use Rattle.std.specs.Prelude.{◌≡◌, cond, None}
use Rattle.std.specs.Set.{is_member}
use Rattle.cedar_ids.specs.UidOf.{same_uid}
use Rattle.cedar_ids.specs.declared.entity.EntityUID.{EntityUID}
use Rattle.cedar_entity_maps.specs.laws.EntityMap.{entity_at}
use Rattle.cedar_entities.proofs.edits.remove_each.Given as goal

abbrev pub invariant-loop-uid : goal.invariant-loop-uid
invariant-loop-uid g l = (q : EntityUID)
    → entity_at l.entities q ≡ cond (is_member same_uid l.yielded q) None (entity_at l.initial.entities q)
