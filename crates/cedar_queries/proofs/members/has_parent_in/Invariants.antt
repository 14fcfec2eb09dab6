use Rattle.std.proofs.Common.{◌≡◌, map, true, false}
use Rattle.std.specs.HashSet.{contains}
use Rattle.std.specs.Set.{is_member}
use Rattle.cedar_ids.specs.UidOf.{same_uid}
use Rattle.cedar_ids.specs.declared.entity.EntityUID.{EntityUID}
use Rattle.cedar_queries.proofs.members.has_parent_in.Given as goal

abbrev pub invariant-loop-parent : goal.invariant-loop-parent
invariant-loop-parent g l = (p : EntityUID) → is_member same_uid (map (λ x. x.now) l.yielded) p ≡ true
    → contains same_uid l.uids p ≡ false
