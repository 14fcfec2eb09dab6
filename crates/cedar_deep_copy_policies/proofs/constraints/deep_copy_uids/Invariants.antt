use Rattle.std.specs.Prelude.{◌≡◌, map, take}
use Rattle.cedar_ids.specs.UidOf.{uid_parts}
use Rattle.cedar_deep_copy_policies.proofs.constraints.deep_copy_uids.Given as goal

abbrev pub invariant-loop-uid : goal.invariant-loop-uid
invariant-loop-uid l = map uid_parts l.own.items ≡ map (λ u. uid_parts u.value) (take l.uid-index l.uids)
