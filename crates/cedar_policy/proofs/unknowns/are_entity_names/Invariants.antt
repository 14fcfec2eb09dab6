use Rattle.std.proofs.Common.{◌≡◌, map, take, true}
use Rattle.std.specs.HashSet.{contains}
use Rattle.cedar_ids.specs.Escape.{is_ascii}
use Rattle.cedar_ids.specs.UidOf.{uid_parts, same_uid}
use Rattle.cedar_ids.specs.declared.entity.EntityUID.{EntityUID}
use Rattle.cedar_policy.specs.Unknowns.{is_unknown_entity}
use Rattle.cedar_policy.proofs.unknowns.are_entity_names.Given as goal

abbrev pub invariant-loop-unknown : goal.invariant-loop-unknown
invariant-loop-unknown g l =
    (u : EntityUID) → is_ascii (uid_parts u).eid ≡ true
    → contains same_uid l.uids u ≡ is_unknown_entity (uid_parts u)
    (map (λ x. x.now) (take l.unknown-index l.unknowns))
