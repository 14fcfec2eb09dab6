use Rattle.std.proofs.Common.{refl}
use Rattle.cedar_entity.specs.View.{has_ancestor}
use Rattle.cedar_c_stores.specs.Stores.{IsAncestorIn}
use Rattle.cedar_c_stores.proofs.Asking.{answered, above_held, listed}
use Rattle.cedar_c_stores.proofs.store_state.StoreState.ancestors.Goals as goal

pub returns : goal.returns
returns g c = answered refl refl refl refl
    (listed has_ancestor IsAncestorIn c.args.self.now.store c.in_ok-uid.uid c.in-Some.entity.now c.ancestors_in_order.result _ _ above_held
    c.in_ok-uid.ensures c.in-Some.ensures.value c.ancestors_in_order.ensures.ascending c.ancestors_in_order.ensures.members c.in_ok-answer-in-Some.ensures)
