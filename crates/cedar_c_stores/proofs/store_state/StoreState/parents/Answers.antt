use Rattle.std.proofs.Common.{refl}
use Rattle.cedar_c_stores.specs.Stores.{IsParent, has_parent}
use Rattle.cedar_c_stores.proofs.Asking.{answered, parents_held, listed}
use Rattle.cedar_c_stores.proofs.store_state.StoreState.parents.Goals as goal

pub returns : goal.returns
returns g c = answered refl refl refl refl
    (listed has_parent IsParent c.args.self.now.store c.in_ok-uid.uid c.in-Some.entity.now c.parents.result _ _ parents_held
    c.in_ok-uid.ensures c.in-Some.ensures.value c.parents.ensures.ascending c.parents.ensures.lists.members c.in_ok-answer-in-Some.ensures)
