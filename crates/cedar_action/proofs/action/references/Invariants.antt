use Rattle.std.proofs.Common.{◌≡◌, take, map}
use Rattle.cedar_ids.specs.UidOf.{uid_parts}
use Rattle.cedar_action.proofs.action.references.Given as goal

abbrev pub invariant-loop-euid : goal.invariant-loop-euid
invariant-loop-euid l = map (λ u. uid_parts u.now) l.all.items
    ≡ map (λ u. uid_parts u.value) (take l.euid-index l.euid-items)
