use Rattle.std.proofs.Common.{◌≡◌, take, map}
use Rattle.std.specs.List.{filter}
use Rattle.cedar_ids.specs.UidOf.{uid_parts}
use Rattle.cedar_action.specs.RuleReads.{is_no_action}
use Rattle.cedar_action.proofs.action.non_actions.Given as goal

abbrev pub invariant-loop-euid : goal.invariant-loop-euid
invariant-loop-euid l = map (λ u. uid_parts u.value) l.found.items
    ≡ filter is_no_action (map (λ u. uid_parts u.value) (take l.euid-index l.euid-items))
