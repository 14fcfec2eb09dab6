use Rattle.std.proofs.Common.{refl}
use Rattle.cedar_c_stores.specs.Reads.{IsIndirectAncestorIn, has_indirect}
use Rattle.cedar_c_stores.proofs.Asking.{answered, far_above_held, listed}
use Rattle.cedar_c_stores.proofs.store_state.StoreState.indirect_ancestors.Goals as goal

pub returns : goal.returns
returns g c = answered refl refl refl refl
    (listed has_indirect IsIndirectAncestorIn c.args.self.now.store c.in_ok-uid.uid c.in-Some.entity.now c.indirect_ancestors.result _ _ far_above_held
    c.in_ok-uid.ensures c.in-Some.ensures.value c.indirect_ancestors.ensures.ascending c.indirect_ancestors.ensures.lists.members c.in_ok-answer-in-Some.ensures)
