use Rattle.std.proofs.Common.{take}
use Rattle.cedar_entity_maps.specs.Plain.{HaveNoIndirect, entities_in}
use Rattle.cedar_dry_run.proofs.would.have_no_indirect.Given as goal

abbrev pub invariant-loop-entity : goal.invariant-loop-entity
invariant-loop-entity l = HaveNoIndirect (entities_in (take l.entity-index l.list))
