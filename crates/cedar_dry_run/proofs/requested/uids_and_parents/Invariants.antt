use Rattle.std.proofs.Common.{take}
use Rattle.cedar_entity_maps.specs.Plain.{entities_in}
use Rattle.cedar_dry_run.specs.laws.Requested.{AreAsked}
use Rattle.cedar_dry_run.proofs.requested.uids_and_parents.Given as goal

abbrev pub invariant-loop-entity : goal.invariant-loop-entity
invariant-loop-entity l = AreAsked l.uids.items (entities_in (take l.entity-index l.list))
