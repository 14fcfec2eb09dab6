-- Laws of the equality, order and hash of uids.
use Rattle.std.specs.Prelude.{◌≡◌, true}
use Rattle.std.proofs.Common.{ap}
use Rattle.std.specs.Bool.{Decides}
use Rattle.std.specs.Ordering.{as_partial_cmp, eq_by_cmp}
use Rattle.std.specs.Cmp.{IsEquivalence, IsTotalOrder, IsPartialOrder, on_equiv, on_total, po}
use Rattle.cedar_ids.specs.laws.UidLaws.{uid_eq_equiv, uid_cmp_total, uid_ties, uid_eq-Decides}
use Rattle.cedar_ids.specs.declared.entity.EntityUID.{EntityUID}
use Rattle.cedar_ids.specs.declared.entity.EntityUID.TheVariants as uids
use Rattle.cedar_ids.specs.UidOf.{same_uid, uid_hash, uid_order, uid_parts}

-- `==` is an equivalence.
pub same_uid_equiv : IsEquivalence same_uid
same_uid_equiv = on_equiv uid_parts uid_eq_equiv

-- The order is total.
pub uid_order_total : IsTotalOrder uid_order
uid_order_total = on_total uid_parts uid_cmp_total

-- Two uids are equal if the order reports `Equal`, and only then.
pub uid_order_ties : (x y : EntityUID) → same_uid x y ≡ eq_by_cmp uid_order x y
uid_order_ties x y = uid_ties (uid_parts x) (uid_parts y)

-- The order is a partial order.
pub uid_order_po : IsPartialOrder same_uid (as_partial_cmp uid_order)
uid_order_po = po uid_order_total uid_order_ties

same_parts : (x y : EntityUID) → uid_parts x ≡ uid_parts y → x ≡ y
same_parts (uids.EntityUID u) (uids.EntityUID v) e = ap uids.EntityUID e

-- `==` decides whether two uids are identical.
pub same_uid_decides : (x y : EntityUID) → Decides (same_uid x y) (x ≡ y)
same_uid_decides x y = (
  λ e. same_parts x y ((uid_eq-Decides (uid_parts x) (uid_parts y)).0 e),
  λ e.
      (uid_eq-Decides (uid_parts x) (uid_parts y)).1 (ap uid_parts e),
)

-- Equal uids have equal hashes.
pub uid_hash_respects : (x y : EntityUID) → same_uid x y ≡ true → uid_hash x ≡ uid_hash y
uid_hash_respects x y e = ap uid_hash ((same_uid_decides x y).0 e)
