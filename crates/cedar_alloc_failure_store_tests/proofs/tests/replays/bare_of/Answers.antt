use Rattle.std.proofs.Common.{sym, subst}
use Rattle.cedar_entity_maps.specs.Plain.{HaveNoIndirect}
use Rattle.cedar_alloc_failure_store_tests.proofs.tests.replays.bare_of.Goals as goal

pub loop-text-init : goal.loop-text-init
loop-text-init c = subst HaveNoIndirect (sym c.new-list.ensures.items) tt
