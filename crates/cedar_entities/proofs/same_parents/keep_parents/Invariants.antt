use Rattle.std.proofs.Common.{take}
use Rattle.std.specs.List.{AllByRecursion}
use Rattle.cedar_entity_maps.specs.laws.EntityMap.{held_map}
use Rattle.cedar_entities.specs.laws.SameParents.{KeepsParents}
use Rattle.cedar_entities.proofs.same_parents.keep_parents.Given as goal

abbrev pub invariant-loop-incoming : goal.invariant-loop-incoming
invariant-loop-incoming g l = AllByRecursion (KeepsParents (held_map l.entities)) (take l.incoming-index l.list)
