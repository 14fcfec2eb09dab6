use Rattle.std.proofs.Common.{◌∷◌}
use Rattle.cedar_ids.specs.UidOf.{uid_parts}
use Rattle.cedar_action.specs.laws.UidCopies.{copied_parts}
use Rattle.cedar_policy.proofs.err.copy_of_uids.Goals as goal

pub returns : goal.returns
returns c =
    λ i. uid_parts (c.in_ok-clone.ensures.cases i) ∷ copied_parts c.args.euids.now.tail.items
    c.in_ok-clone-2.field-0.items c.in_ok-clone-2.ensures.cases.0 i
