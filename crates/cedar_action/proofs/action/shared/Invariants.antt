use Rattle.std.proofs.Common.{◌≡◌, ◌++◌, map}
use Rattle.std.specs.Vec.Iter.{into_iter_items}
use Rattle.cedar_ids.specs.UidOf.{uid_parts}
use Rattle.cedar_action.proofs.action.shared.Given as goal

abbrev pub invariant-loop-euid : goal.invariant-loop-euid
invariant-loop-euid l = map (λ u. uid_parts u.value) l.all.items ++ map uid_parts (into_iter_items l.euid-iterator)
    ≡ map uid_parts l.fn.euids.items
