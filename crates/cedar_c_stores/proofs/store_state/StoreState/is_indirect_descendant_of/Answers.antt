use Rattle.cedar_c_stores.specs.Reads.{has_indirect}
use Rattle.cedar_c_stores.proofs.Asking.{related}
use Rattle.cedar_c_stores.proofs.store_state.StoreState.is_indirect_descendant_of.Goals as goal

pub returns-clause-asks : goal.returns-clause-asks
returns-clause-asks g c =
    related has_indirect c.args.self.now.store c.in_ok-child.child c.in-Ok.uid c.in-Some.entity.now _ _ _ c.in_ok-child.ensures
    c.in-Some.ensures.value c.in-Ok.ensures c.is_indirect_descendant_of.ensures
