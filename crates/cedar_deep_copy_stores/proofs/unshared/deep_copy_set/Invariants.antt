use Rattle.std.specs.Prelude.{◌≡◌}
use Rattle.std.specs.HashSet.{contains}
use Rattle.std.specs.Set.{is_member}
use Rattle.cedar_ids.specs.UidOf.{same_uid}
use Rattle.cedar_ids.specs.declared.entity.EntityUID.{EntityUID}
use Rattle.cedar_deep_copy_stores.proofs.unshared.deep_copy_set.Given as goal

abbrev pub invariant-loop-copy : goal.invariant-loop-copy
invariant-loop-copy g l = (q : EntityUID) → contains same_uid l.set q ≡ is_member same_uid l.yielded q
