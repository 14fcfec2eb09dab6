use Rattle.std.proofs.Common.{◌≡◌, map, drop}
use Rattle.std.specs.List.{list_any}
use Rattle.cedar_ids.specs.Uid.{uid_eq}
use Rattle.cedar_ids.specs.UidOf.{uid_parts}
use Rattle.cedar_naming.proofs.naming.is_listed.Given as goal

abbrev pub invariant-loop-one : goal.invariant-loop-one
invariant-loop-one l =
    list_any (λ u. uid_eq u (uid_parts l.uid)) (map (λ u. uid_parts u.value) (drop l.one-index l.uids))
    ≡ list_any (λ u. uid_eq u (uid_parts l.uid)) (map (λ u. uid_parts u.value) l.uids)
