use Rattle.std.proofs.Common.{refl}
use Rattle.cedar_store.proofs.session.Session.with_hasher.Goals as goal

pub returns : goal.returns
returns g c = record { entities = c.with_hasher.ensures; policy_sets = c.with_hasher-2.ensures; whole = refl }
