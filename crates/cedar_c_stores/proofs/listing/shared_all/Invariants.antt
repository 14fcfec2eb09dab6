use Rattle.std.specs.Prelude.{◌≡◌}
use Rattle.cedar_c_stores.proofs.listing.shared_all.Given as goal

abbrev pub invariant-loop-uid : goal.invariant-loop-uid
invariant-loop-uid l = l.shared.items ≡ l.yielded
