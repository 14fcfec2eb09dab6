use Rattle.std.proofs.Common.{sym}
use Rattle.cedar_c_stores.proofs.store_state.StoreState.entity_is_equal.Goals as goal

pub returns-clause-compares : goal.returns-clause-compares
returns-clause-compares g c =
    let u = c.in_ok-uid.uid in (
      c.in-Some.one.now,
      c.in-Some-stored.entity.now,
      (u, c.in_ok-uid.ensures, sym c.in-Some.ensures.value),
      (u, c.in_ok-uid.ensures, sym c.in-Some-stored.ensures.value),
      c.deep_eq.ensures.equal,
    )
