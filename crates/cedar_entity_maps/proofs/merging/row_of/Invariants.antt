use Rattle.std.proofs.Common.{◌≡◌, map}
use Rattle.std.specs.FinSet as set
use Rattle.std.specs.List.{list_any}
use Rattle.cedar_ids.specs.declared.entity.EntityUID.{EntityUID}
use Rattle.cedar_entity_maps.specs.Modes.{is_ancestor_in}
use Rattle.cedar_entity_maps.specs.laws.EntityMap.{entity_at}
use Rattle.cedar_entity_maps.proofs.merging.row_of.Given as goal

abbrev pub invariant-loop-uid : goal.invariant-loop-uid
invariant-loop-uid g l = (q : EntityUID)
    → set.contains l.row q ≡ list_any (λ y. is_ancestor_in (entity_at l.entities y) q) (map (λ x. x.now) l.yielded)
