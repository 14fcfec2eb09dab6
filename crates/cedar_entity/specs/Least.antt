-- The least uid that passes a test.
use Rattle.std.specs.Prelude.{◌≡◌, Bool, true, false}
use Rattle.std.specs.declared.cmp.Ordering.TheVariants.{Less}
use Rattle.cedar_ids.specs.UidOf.{uid_order}
use Rattle.cedar_ids.specs.declared.entity.EntityUID.{EntityUID}

-- Holds if a passes the test and no uid that passes is less than a.
pub record IsLeast (passes : EntityUID → Bool) (a : EntityUID) : Type 0 where
  pub passing : passes a ≡ true
  pub least : (q : EntityUID) → passes q ≡ true → uid_order q a ≡ Less → ⊥

-- Holds if no uid passes the test.
abbrev pub NonePasses : (EntityUID → Bool) → Type 0
NonePasses passes = (q : EntityUID) → passes q ≡ false
