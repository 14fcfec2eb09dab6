use Rattle.std.proofs.Common.{sym, subst}
use Rattle.std.specs.List.{AllByRecursion}
use Rattle.cedar_replay.specs.CallsOf.{EntitiesHaveNoIndirect}
use Rattle.cedar_alloc_failure_store_tests.proofs.tests.replays.calls_of.Goals as goal

pub loop-text-init : goal.loop-text-init
loop-text-init c = subst (AllByRecursion EntitiesHaveNoIndirect) (sym c.new-list.ensures.items) tt
