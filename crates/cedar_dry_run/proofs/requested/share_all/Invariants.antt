use Rattle.std.proofs.Common.{◌≡◌, take}
use Rattle.cedar_entity_maps.specs.Plain.{entities_in}
use Rattle.cedar_dry_run.proofs.requested.share_all.Given as goal

abbrev pub invariant-loop-entity : goal.invariant-loop-entity
invariant-loop-entity l = entities_in l.copies.items ≡ entities_in (take l.entity-index l.list)
