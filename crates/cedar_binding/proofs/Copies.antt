-- A copy of a uid is the same uid.
use Rattle.std.proofs.Common.{◌≡◌, ap}
use Rattle.cedar_ids.specs.declared.entity.EntityUID.{EntityUID}
use Rattle.cedar_ids.specs.declared.entity.EntityUID.TheVariants as uids

pub uid_copied : (u v : EntityUID) → Rattle.cedar_ids.specs.contracts.entity.EntityUIDClone.TheImpl.by_variants u v
    → v ≡ u
uid_copied (uids.EntityUID x) (uids.EntityUID y) h = ap uids.EntityUID h
