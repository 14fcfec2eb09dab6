use Rattle.std.proofs.Common.{sym, subst}
use Rattle.std.specs.FinSet as set
use Rattle.cedar_ids.specs.UidOf.{uid_order}
use Rattle.cedar_entity_maps.specs.Plain.{HasNoIndirect}
use Rattle.cedar_examples_tests.proofs.tests.stores.entity_of.Goals as goal

pub returns : goal.returns
returns c = subst HasNoIndirect (sym c.in_ok-with_shared_parents.ensures) (λ q. set.contains-empty uid_order q)
