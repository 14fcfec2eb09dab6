use Rattle.std.proofs.Common.{◌≡◌, take, map}
use Rattle.cedar_ids.specs.UidOf.{uid_parts}
use Rattle.cedar_terms.specs.UidTrees.{uid_expr}
use Rattle.cedar_action.proofs.action.euids_into_expr.Given as goal

abbrev pub invariant-loop-euid : goal.invariant-loop-euid
invariant-loop-euid l = l.exprs.items ≡ map uid_expr (map (λ u. uid_parts u.value) (take l.euid-index l.euid-items))
