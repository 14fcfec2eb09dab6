use Rattle.std.specs.Prelude.{◌≡◌, [], map, take}
use Rattle.cedar_c_stores.proofs.listing.without_parents.Given as goal

abbrev pub invariant-loop-uid : goal.invariant-loop-uid
invariant-loop-uid l = l.listed.items ≡ map (λ u. (u, [])) (take l.uid-index l.uids)
