use Rattle.std.proofs.Common.{ap, ◌∙◌, rules}
use Rattle.cedar_c_stores.proofs.store_state.StoreState.has.Goals as goal

pub returns-clause-asks : goal.returns-clause-asks
returns-clause-asks g c = (c.in_ok-uid.uid, c.in_ok-uid.ensures, search rules)
