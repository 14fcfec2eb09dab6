-- A copy of a uid is equal to it.
use Rattle.std.specs.Prelude.{◌≡◌, IsTrue}
use Rattle.std.proofs.Common.{ap, sym}
use Rattle.cedar_ids.specs.UidOf.{same_uid}
use Rattle.cedar_ids.specs.laws.UidOfLaws.{same_uid_decides}
use Rattle.cedar_ids.specs.declared.entity.EntityUID.{EntityUID}
use Rattle.cedar_ids.specs.declared.entity.EntityUID.TheVariants as uids

uid_copied : (u v : EntityUID) → Rattle.cedar_ids.specs.contracts.entity.EntityUIDClone.TheImpl.by_variants u v → v ≡ u
uid_copied (uids.EntityUID x) (uids.EntityUID y) h = ap uids.EntityUID h

pub copies_are_equal : (u v : EntityUID)
    → Rattle.cedar_ids.specs.contracts.entity.EntityUIDClone.TheImpl.by_variants u v → IsTrue (same_uid u v)
copies_are_equal u v h = (same_uid_decides u v).1 (sym (uid_copied u v h))
