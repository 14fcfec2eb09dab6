use Rattle.std.specs.Prelude.{◌≡◌, map}
use Rattle.cedar_c_stores.specs.Lists.{with_parents}
use Rattle.cedar_c_stores.proofs.listing.entities_with.Given as goal

abbrev pub invariant-loop-one : goal.invariant-loop-one
invariant-loop-one l = map (λ r. r.value) l.list.items ≡ map (λ p. with_parents p.0 p.1) l.yielded
