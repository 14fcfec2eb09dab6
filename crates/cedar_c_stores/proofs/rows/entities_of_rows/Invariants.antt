use Rattle.std.specs.List.{AllZip}
use Rattle.cedar_entity_maps.specs.Plain.{entities_in}
use Rattle.cedar_c_stores.specs.Contents.{IsEntityOf}
use Rattle.cedar_c_stores.proofs.rows.entities_of_rows.Given as goal

abbrev pub invariant-loop-row : goal.invariant-loop-row
invariant-loop-row l = AllZip IsEntityOf l.yielded (entities_in l.list.items)
