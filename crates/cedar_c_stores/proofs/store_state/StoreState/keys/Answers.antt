use Rattle.std.proofs.Common.{refl, ◌∙◌}
use Rattle.cedar_c_stores.specs.Reads.{AreKeysOf, attrs_of}
use Rattle.cedar_c_stores.proofs.Asking.{answered, answered_at}
use Rattle.cedar_c_stores.proofs.store_state.StoreState.keys.Goals as goal

pub returns : goal.returns
returns g c = answered refl refl refl refl
    (answered_at (AreKeysOf attrs_of) c.args.self.now.store c.in_ok-uid.uid c.in-Some.entity.now _ _ c.in_ok-uid.ensures
    c.in-Some.ensures.value (c.in_ok-answer-in-Some.ensures ∙ c.keys.ensures.keys, c.keys.ensures.ascending))
