use Rattle.std.proofs.Common.{take}
use Rattle.cedar_entity_maps.specs.Plain.{HaveNoIndirect}
use Rattle.cedar_entities.proofs.incoming.have_no_indirect.Given as goal

abbrev pub invariant-loop-incoming : goal.invariant-loop-incoming
invariant-loop-incoming l = HaveNoIndirect (take l.incoming-index l.list)
