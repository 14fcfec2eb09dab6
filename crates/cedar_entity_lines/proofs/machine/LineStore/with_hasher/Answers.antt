use Rattle.std.proofs.Common.{ap}
use Rattle.cedar_entity_maps.specs.Plain.{entities_in}
use Rattle.cedar_entity_maps.specs.InputStore.{empty_input}
use Rattle.cedar_entity_lines.proofs.Steps.{settled, empty_ascii}
use Rattle.cedar_entity_lines.proofs.machine.LineStore.with_hasher.Goals as goal

pub returns : goal.returns
returns g c = settled _ empty_input (ap entities_in c.new.ensures.items) c.with_hasher.ensures.plain empty_ascii
