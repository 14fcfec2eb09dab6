use Rattle.std.proofs.Common.{sym}
use Rattle.cedar_c_stores.proofs.store_state.StoreState.attrs_len.Goals as goal

pub returns-clause-tells : goal.returns-clause-tells
returns-clause-tells g c = (
  c.in-Some.entity.now,
  (c.in_ok-uid.uid, c.in_ok-uid.ensures, sym c.in-Some.ensures.value),
  c.attrs_len.ensures,
)
