use Rattle.std.proofs.Common.{sym, subst}
use Rattle.std.specs.FinSet as set
use Rattle.cedar_ids.specs.UidOf.{uid_order}
use Rattle.cedar_entity_maps.specs.Plain.{HasNoIndirect}
use Rattle.cedar_alloc_failure_store_tests.proofs.tests.replays.bare.Goals as goal

pub returns-in-Some : goal.returns-in-Some
returns-in-Some c = subst HasNoIndirect (sym c.remove_all_indirect_ancestors.ensures) (λ q. set.contains-empty uid_order q)
