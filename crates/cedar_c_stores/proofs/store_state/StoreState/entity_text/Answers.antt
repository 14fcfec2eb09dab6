use Rattle.std.proofs.Common.{refl}
use Rattle.cedar_c_stores.specs.Reads.{IsOneText}
use Rattle.cedar_c_stores.proofs.Asking.{answered, answered_at}
use Rattle.cedar_c_stores.proofs.store_state.StoreState.entity_text.Goals as goal

pub returns : goal.returns
returns g c = answered refl refl refl refl
    (answered_at (λ _ texts. IsOneText texts) c.args.self.now.store c.in_ok-uid.uid c.in-Some.entity.now _ _ c.in_ok-uid.ensures
    c.in-Some.ensures.value (c.deref.result.now, c.in_ok-self.ensures))
